use Rattle.std.proofs.Common.{◌≡◌, IsTrue, false, inl, string_bytes, sym, subst, ◌∙◌}
use Rattle.seccomp_faults.specs.Faults.{HasKey}
use Rattle.seccomp_faults.specs.Table.{has_key, is_closed}
use Rattle.seccomp_faults.proofs.Parts.{view}
use Rattle.seccomp_faults.proofs.part.by_key.Goals as goal

pub returns-in-Some : goal.returns-in-Some
returns-in-Some c = λ d there. c.under.ensures c.args.form d (inl (sym c.member_of.ensures ∙ c.in-Some.is)) there

pub returns : goal.returns
returns c = λ d there.
    let form = c.args.form in
    let same : c.args.key.now ≡ string_bytes c.in_ok-key.key = sym c.in_ok-key.ensures.ok in
    let closed : IsTrue (is_closed form) = sym c.if-not-is_closed.ensures in
    let lacks : has_key form c.args.key.now ≡ false = sym c.if-is_key.ensures in
    (closed, subst (HasKey d) same (view c.args.value.now, there), subst (λ key. has_key form key ≡ false) same lacks)
