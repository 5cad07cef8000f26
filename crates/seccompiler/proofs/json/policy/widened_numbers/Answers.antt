use Rattle.std.proofs.Common.{◌≡◌, ◌≢◌, ◌&&◌, Bool, pos, ap, ◌∙◌, sym, subst, rules, refl, arith, length, All, List}
use Rattle.std.specs.Option.{is_some}
use Rattle.std.proofs.lemmas.Bool.{true≢false}
use Rattle.std.proofs.lemmas.Result.{err_from_is_err_and}
use Rattle.seccompiler.specs.contracts.backend.SeccompActionEqualByParts.TheImpl.Laws as laws
use Rattle.seccompiler.specs.JsonGathered.{rules_at}
use Rattle.seccompiler.specs.JsonPolicyOf.{IsFineEntry, IsFirstFault, IsFirstOf, in_actions, in_entries}
use Rattle.seccompiler.specs.JsonTypes.{JsonFilter, JsonRule}
use Rattle.seccompiler.proofs.json.policy.EntryFaults.{tells_more}
use Rattle.seccompiler.proofs.json.policy.EntryChains.{some_held}
use Rattle.seccompiler.proofs.json.policy.ToldNumbers.{signed, told_all, none_listed, next_listed, next_not_listed}
use Rattle.seccompiler.proofs.json.policy.WidenedNumbers.{both_gathered}
use Rattle.seccompiler.proofs.json.policy.widened_numbers.Goals as goal

pub loop-number-init : goal.loop-number-init
loop-number-init c = rw c.new-numbers.ensures.items (none_listed _ _)

pub loop-number-preserved-then-not-always-number : goal.loop-number-preserved-then-not-always-number
loop-number-preserved-then-not-always-number c = next_not_listed _ _ c.loop-number.number _ (rw c.if-not-always-number.true refl)
    c.loop-number.invariant

pub loop-number-preserved-then-not-contains_key : goal.loop-number-preserved-then-not-contains_key
loop-number-preserved-then-not-contains_key c =
    let number = c.loop-number.number in
    next_not_listed _ _ number _ (rw c.if-not-always-number.false (some_held c.in_ok-gathered.gathered.rules.entries (pos number)
    ∙ sym (rw (signed number c.loop-number-test.true) at c.contains_key.ensures) ∙ c.if-not-contains_key.true)) c.loop-number.invariant

pub loop-number-preserved : goal.loop-number-preserved
loop-number-preserved c =
    let number = c.loop-number.number in
    rw (c.in-Ok-push.ensures.items, signed number c.loop-number-test.true)
    (next_listed _ _ number _ (rw c.if-not-always-number.false (some_held c.in_ok-gathered.gathered.rules.entries (pos number)
    ∙ sym (rw (signed number c.loop-number-test.true) at c.contains_key.ensures) ∙ c.if-not-contains_key.false)) c.loop-number.invariant)

pub returns-clause-ascending : goal.returns-clause-ascending
returns-clause-ascending c = c.loop-number.invariant.ascending

pub returns-clause-numbers : goal.returns-clause-numbers
returns-clause-numbers c =
    let gathered = c.in_ok-gathered.gathered in
    let told = gathered.always in
    let long : length told ≡ 463 = search rules in
    let these = c.as_slice.ensures.value ∙ ap (λ (f : JsonFilter). f.rules) (c.lent-2.view_is ∙ c.in-Ok.ensures) in
    both_gathered c.args.arch c.args.filter.now c.as_slice.result.now gathered _ these c.in_ok-gathered.ensures.1
    (λ q. c.loop-number.invariant.listed q ∙ ap (λ (b : Bool). b && is_some (rules_at gathered q))
    (told_all told _ q (omega (arith, long, c.loop-number-test.false))))

pub returns-clause-faultless : goal.returns-clause-faultless
returns-clause-faultless c =
    let these = c.as_slice.ensures.value ∙ ap (λ (f : JsonFilter). f.rules) (c.lent-2.view_is ∙ c.in-Ok.ensures) in
    let apart : c.args.filter.now.mismatch_action ≢ c.args.filter.now.match_action =
    rw (← c.filter.view_is) (λ same. true≢false (sym ((laws.decides-law _ _).1 same) ∙ sym c.eq.ensures ∙ c.if-eq.false)) in
    (subst (λ (entries : List JsonRule). All (IsFineEntry c.args.arch) entries) these c.in_ok-gathered.ensures.0, apart)

pub returns-in_err-gathered-clause-refused : goal.returns-in_err-gathered-clause-refused
returns-in_err-gathered-clause-refused c = let p = err_from_is_err_and c.from_residual.result c.from_residual.ensures.1 in
    let these = c.as_slice.ensures.value ∙ ap (λ (f : JsonFilter). f.rules) (c.lent-2.view_is ∙ c.in-Ok.ensures) in
    rw (p.1, p.2) (tells_more (IsFirstOf c.args.arch c.args.filter.now.rules) (IsFirstFault c.args.arch c.args.filter.now)
    (λ fault first. in_entries first) c.in_err-gathered.field-0.0 (rw these at c.in_err-gathered.ensures))

pub returns-then-eq-clause-refused : goal.returns-then-eq-clause-refused
returns-then-eq-clause-refused c =
    let these = c.as_slice.ensures.value ∙ ap (λ (f : JsonFilter). f.rules) (c.lent-2.view_is ∙ c.in-Ok.ensures) in
    let fine = subst (λ (es : List JsonRule). All (IsFineEntry c.args.arch) es) these c.in_ok-gathered.ensures.0 in
    let same = subst (λ (f : JsonFilter). f.mismatch_action ≡ f.match_action) c.filter.view_is
    ((laws.decides-law _ _).0 (sym c.eq.ensures ∙ c.if-eq.true)) in
    (in_actions fine same refl, λ same. cc)
