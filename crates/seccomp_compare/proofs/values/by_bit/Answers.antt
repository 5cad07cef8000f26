use Rattle.std.proofs.Common.{◌≡◌, ℕ, ◌^◌, ⊎_elim, inl, inr, sym, ap, ◌∙◌}
use Rattle.std.specs.Prelude.{bit_and, bit_or}
use Rattle.std.proofs.lemmas.Nat.{one_shl}
use Rattle.seccomp_compare.specs.declared.values.Values.{Values}
use Rattle.seccomp_compare.specs.WordSets.{KeepsKnown, AreHalves}
use Rattle.seccomp_compare.proofs.Masks.{one_bit, less_known, less_known_one, keeps_more}
use Rattle.seccomp_compare.proofs.values.by_bit.Goals as goal

-- the halves by a bit
halves_of : (s : Values) (j b : ℕ) → b ≡ 2 ^ j → KeepsKnown s → bit_and s.known b ≡ 0
    → AreHalves s (record s { known = bit_or s.known b }) (record s { known = bit_or s.known b; value = bit_or s.value b })
halves_of s j b e kept apart = record {
  cover = λ x fits has.
      ⊎_elim
      (λ zero. inl record { bits = ap (λ n. bit_and x (bit_or s.known n)) e ∙ zero; least = has.least; most = has.most })
      (λ one. inr record {
        bits = ap (λ n. bit_and x (bit_or s.known n)) e ∙ one ∙ ap (λ n. bit_or s.value n) (sym e);
        least = has.least;
        most = has.most;
      })
      (one_bit x s.known s.value j has.bits);
  from_low = λ x fits has. record { bits = less_known x s.known s.value b kept has.bits; least = has.least; most = has.most };
  from_high = λ x fits has. record { bits = less_known_one x s.known s.value b kept apart has.bits; least = has.least; most = has.most };
}

pub returns-clause-halves : goal.returns-clause-halves
returns-clause-halves c = halves_of c.args.values c.args.place _
    (one_shl c.args.place 32 c.requires.place) c.requires.kept c.if-values-bit-ne0.false

pub returns-clause-lower : goal.returns-clause-lower
returns-clause-lower c = (keeps_more c.args.values.known c.args.values.value _ c.requires.kept).0

pub returns-clause-upper : goal.returns-clause-upper
returns-clause-upper c = (keeps_more c.args.values.known c.args.values.value _ c.requires.kept).1
