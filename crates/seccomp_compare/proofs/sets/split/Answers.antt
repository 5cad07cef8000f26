use Rattle.std.proofs.Common.{◌*◌, ◌<◌, length, rules, ⊎_elim, inl, inr, subst}
use Rattle.std.proofs.lemmas.Option.{slice_get-get_or, get_or_from_slice_get}
use Rattle.seccompiler.specs.Machine.{word_at}
use Rattle.seccomp_compare.specs.WordSets.{HasValue}
use Rattle.seccomp_compare.proofs.Words.{word_fits}
use Rattle.seccomp_compare.proofs.sets.split.Goals as goal

pub halves-requires : goal.halves-requires
halves-requires c =
    let long : c.args.at.word < length c.args.part.now = search rules in
    let here = slice_get-get_or c.args.part.now c.args.at.word (record { known = 0; value = 0; mask = 0; least = 0; most = 0 }) long in
    c.requires.tight.each c.args.at.word _ here (c.requires.some.each c.args.at.word _ here)

pub returns-clause-cover : goal.returns-clause-cover
returns-clause-cover c = λ r rec inside.
    let long : c.args.at.word < length c.args.part.now = search rules in
    let here = slice_get-get_or c.args.part.now c.args.at.word _ long in
    ⊎_elim
    (λ l. inl (c.narrowed.ensures.to r inside l))
    (λ h. inr (c.narrowed-2.ensures.to r inside h))
    (c.halves.ensures.halves.cover (word_at r (4 * c.args.at.word)) (word_fits r _ rec) (inside.each c.args.at.word _ here))

pub returns-clause-from_low : goal.returns-clause-from_low
returns-clause-from_low c = c.narrowed.ensures.back (λ x fits has s found.
    subst (λ t. HasValue t x) (get_or_from_slice_get c.args.part.now c.args.at.word s _ found)
    (c.halves.ensures.halves.from_low x fits has))

pub returns-clause-from_high : goal.returns-clause-from_high
returns-clause-from_high c = c.narrowed-2.ensures.back (λ x fits has s found.
    subst (λ t. HasValue t x) (get_or_from_slice_get c.args.part.now c.args.at.word s _ found)
    (c.halves.ensures.halves.from_high x fits has))
