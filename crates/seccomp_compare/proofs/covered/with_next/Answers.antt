use Rattle.std.proofs.Common.{◌++◌, ◌∷◌, [], Some, refl, subst}
use Rattle.std.proofs.lemmas.List.Elements.{All-pop}
use Rattle.seccompiler.specs.Policy.{Holds}
use Rattle.seccomp_compare.specs.Cover.{OnRule}
use Rattle.seccomp_compare.specs.declared.covered.Seen.{Seen}
use Rattle.seccomp_compare.proofs.KnownBits.{all_one}
use Rattle.seccomp_compare.proofs.covered.with_next.Goals as goal

pub returns-in-Fails : goal.returns-in-Fails
returns-in-Fails c = λ front on r rec has met holds.
    let fails = subst (λ (s : Seen). OnRule c.args.part.now c.args.own.now front s) c.in-Fails.is on in
    fails r rec has met (All-pop (λ d. Holds d r) (front ++ c.args.condition.now ∷ []) front (Some c.args.condition.now) refl holds).0

pub returns-in-Fails-default : goal.returns-in-Fails-default
returns-in-Fails-default c = λ front on r rec has met holds.
    let one = (All-pop (λ d. Holds d r) (front ++ c.args.condition.now ∷ []) front (Some c.args.condition.now) refl holds).1 in
    c.in-Fails-default.ensures r rec has met (all_one (λ d. Holds d r) c.args.condition.now one)
