use Rattle.std.proofs.Common.{◌≡◌, ℤ, List, true, false, rules, w64, refl}
use mir.Val.{SFits}
use Rattle.std.proofs.lemmas.Bool.{true≢false}
use Rattle.std.proofs.lemmas.Int.{to_z-of_z}
use Rattle.std.proofs.lemmas.List.Elements.{All-contains}
use Rattle.seccompiler.specs.Compiled.{AreCallNumbers, IsLeastUnfit}
use Rattle.seccompiler.specs.Policy.{IsCallNumber}
use Rattle.seccompiler.proofs.chain.CallNumbers.{all_fit, least_large, negative}
use Rattle.seccompiler.proofs.chain.unfit_number.Goals as goal

-- Not all are call numbers if one is none.
some_unfit : {numbers : List ℤ} {n : ℤ} → IsLeastUnfit numbers n
    → (true ≡ false → AreCallNumbers numbers) × (AreCallNumbers numbers → true ≡ false)
some_unfit {numbers} {n} h = (λ e. absurd (true≢false e), λ fit. absurd (h.unfit (All-contains IsCallNumber numbers n fit h.among)))

pub returns-in-None-clause-fit : goal.returns-in-None-clause-fit
returns-in-None-clause-fit c = (
  λ none. all_fit c.args.rules.now c.in-Some.least.now c.in-Some.ensures.all_from (search rules)
      (λ q large. (c.range.ensures.in_range tt).5 c.in-None.ensures.steps.0 q (large, tt)),
  λ fit. refl,
)

pub returns-in-Some-large-clause-unfit : goal.returns-in-Some-large-clause-unfit
returns-in-Some-large-clause-unfit c =
    let number = c.in-Some-large.number.now in let fits : SFits w64 number = search rules in
    let range = c.range.ensures.in_range tt in
    let own = rw c.in-Some-large.ensures.steps at range.1 in
    rw (to_z-of_z w64 number fits) (least_large c.args.rules.now c.in-Some.least.now c.in-Some.ensures.all_from (search rules)
    number own.0.0 (rw own.1 refl) (λ q large some. rw c.in-Some-large.ensures.steps at range.2 q (large, tt) some))

pub returns-in-Some-large-clause-fit : goal.returns-in-Some-large-clause-fit
returns-in-Some-large-clause-fit c = some_unfit (returns-in-Some-large-clause-unfit c)

pub returns-then-least-lt0-clause-unfit : goal.returns-then-least-lt0-clause-unfit
returns-then-least-lt0-clause-unfit c =
    let least = c.in-Some.least.now in let fits : SFits w64 least = search rules in rw (to_z-of_z w64 least fits)
    (negative c.args.rules.now least _ c.in-Some.ensures.all_from c.in-Some.ensures.value (search rules))

pub returns-then-least-lt0-clause-fit : goal.returns-then-least-lt0-clause-fit
returns-then-least-lt0-clause-fit c = some_unfit (returns-then-least-lt0-clause-unfit c)
