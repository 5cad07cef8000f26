use Rattle.std.proofs.Common.{◌+◌, ◌*◌, ◌<◌, length, refl, subst, rules, bit_and}
use Rattle.std.proofs.lemmas.Option.{slice_get-get_or}
use Rattle.seccompiler.specs.Machine.{word_at}
use Rattle.seccomp_compare.specs.WordSets.{Passes}
use Rattle.seccomp_compare.specs.RecordSets.{accumulator}
use Rattle.seccomp_compare.proofs.StepsOnSets.{does_then, does_else, does_mask}
use Rattle.seccomp_compare.proofs.Words.{word_fits}
use Rattle.seccomp_compare.proofs.follow.step.Goals as goal

pub returns-in-84-clause-does : goal.returns-in-84-clause-does
returns-in-84-clause-does c = λ r rec within.
    does_mask c.args.instruction r c.args.at
    (record { place = c.args.at.place + 1; word = c.args.at.word; mask = bit_and c.args.at.mask c.args.instruction.k })
    c.in-84.is refl refl refl

pub returns-then-branch-clause-does : goal.returns-then-branch-clause-does
returns-then-branch-clause-does c = λ r rec within.
    let long : c.args.at.word < length c.args.part.now = search rules in
    let here = slice_get-get_or c.args.part.now c.args.at.word _ long in
    let passes = c.in_ok-outcome-in_default.ensures (word_at r (4 * c.args.at.word)) (word_fits r _ rec)
    (within.each c.args.at.word _ here) in
    does_then c.args.instruction r c.args.at.place _
    (subst (λ b. Passes c.args.instruction (accumulator r c.args.at) b) c.if-branch.true passes)

pub returns-else-branch-clause-does : goal.returns-else-branch-clause-does
returns-else-branch-clause-does c = λ r rec within.
    let long : c.args.at.word < length c.args.part.now = search rules in
    let here = slice_get-get_or c.args.part.now c.args.at.word _ long in
    let passes = c.in_ok-outcome-in_default.ensures (word_at r (4 * c.args.at.word)) (word_fits r _ rec)
    (within.each c.args.at.word _ here) in
    does_else c.args.instruction r c.args.at.place _
    (subst (λ b. Passes c.args.instruction (accumulator r c.args.at) b) c.if-branch.false passes)
