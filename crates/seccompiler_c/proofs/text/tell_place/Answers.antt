use Rattle.std.proofs.Common.{◌≡◌, sym, subst, inl, ℕ, List}
use Rattle.seccompiler_c.specs.Messages.{IsTextOf, IsShown}
use Rattle.seccompiler_c.proofs.text.tell_place.Goals as goal

pub returns-in-Some : goal.returns-in-Some
returns-in-Some c =
    let text = c.args.policy.now in
    let fault = c.args.fault.now in
    let said = c.as_str.result.now in
    let shown : IsShown (IsTextOf (λ t. t ≡ c.args.target) text fault) said =
    subst (λ (t : List ℕ). IsShown (IsTextOf (λ t. t ≡ c.args.target) text fault) t) (sym c.as_str.ensures.value) c.in-Some.ensures in
    record { said = said; utf8 = c.as_str.utf8; told = inl shown; holds = c.write_message-in-Some.ensures }
