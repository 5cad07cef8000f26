use Rattle.std.proofs.Common.{inl, inr, ⊎_elim}
use Rattle.seccomp_compare.specs.declared.values.Values.{Values}
use Rattle.seccomp_compare.specs.WordSets.{AreSame, AreHalves}
use Rattle.seccomp_compare.proofs.Masks.{kept_by}
use Rattle.seccomp_compare.proofs.values.halves.Goals as goal

pub bounded-requires : goal.bounded-requires
bounded-requires c = kept_by _ c.args.values.known c.args.values.value c.requires.bits

-- the same words as those of halves of the same words
halves_of_same : {s t low high lower upper : Values} → AreSame s t → AreHalves t low high → AreSame low lower → AreSame high upper
    → AreHalves s lower upper
halves_of_same same halves lows highs = record {
  cover = λ x fits is. ⊎_elim (λ a. inl (lows.to x fits a)) (λ b. inr (highs.to x fits b)) (halves.cover x fits (same.to x fits is));
  from_low = λ x fits is. same.back x fits (halves.from_low x fits (lows.back x fits is));
  from_high = λ x fits is. same.back x fits (halves.from_high x fits (highs.back x fits is));
}

pub returns-clause-halves : goal.returns-clause-halves
returns-clause-halves c =
    halves_of_same c.bounded.ensures.same c.raw_halves.ensures.halves c.tightened.ensures.same c.tightened-2.ensures.same
