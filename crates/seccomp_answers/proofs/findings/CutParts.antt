-- For `found_on` and `cut_at`: parts that are cut into pieces.
use Rattle.std.proofs.Common.{◌≡◌, ℕ, List, [], ◌∷◌, ◌++◌, map, All, refl, sym, ap, subst, inl, inr, arith}
use Rattle.std.proofs.lemmas.Bool.{cases_lt}
use Rattle.std.proofs.lemmas.List.{map-append}
use Rattle.std.proofs.lemmas.List.Elements.{All-append, All-cons, All-head, All-nil, All-tail}
use Rattle.seccompiler.specs.declared.backend.TargetArch.{TargetArch}
use Rattle.seccompiler.specs.Machine.{word_at}
use Rattle.seccomp_compare.specs.declared.Relation.{Relation}
use Rattle.seccomp_answers.specs.Findings.{AreAllFound, AreCut, IsCutInto, IsFound, nothing, whole, cut}
use Rattle.seccomp_answers.specs.declared.findings.Answer.TheVariants.{Holds}
use Rattle.seccomp_answers.specs.declared.findings.Finding.{Finding}
use Rattle.seccomp_answers.specs.declared.findings.Part.{Part}
use Rattle.seccomp_answers.specs.declared.findings.Part.TheVariants.{Named, Unnamed, Elsewhere}

-- What is cut one after the other is cut together.
pub both_cut : (parts pieces more others : List Part) → AreCut parts pieces → AreCut more others → AreCut (parts ++ more) (pieces ++ others)
both_cut parts pieces more others (nothing none no_piece) then = rw (none, no_piece) then
both_cut parts pieces more others (whole {more = rest} {others = ends} own is are) then =
    whole (both_cut rest ends more others own then) (ap (λ ps. ps ++ more) is) (ap (λ ps. ps ++ others) are)
both_cut parts pieces more others (cut {more = rest} {others = ends} {back} into own is are) then =
    cut into (both_cut (back ∷ rest) ends more others own then) (ap (λ ps. ps ++ more) is) (ap (λ ps. ps ++ others) are)

module _ (target : TargetArch) (relation : Relation) (Words : List ℕ → ℕ → ℕ → Type 0) where
  IsOwn : Finding → Type 0
  IsOwn f = IsFound target relation Words f.part f.answer

  -- What is found on parts and on others is found on all.
  pub both_found : (parts more : List Part) (all others : List Finding) → AreAllFound target relation Words parts all
      → AreAllFound target relation Words more others → AreAllFound target relation Words (parts ++ more) (all ++ others)
  unfolding IsOwn
  both_found parts more all others are then = record {
    pieces = subst (AreCut (parts ++ more)) (sym (map-append (λ (f : Finding). f.part) all others))
        (both_cut parts (map (λ (f : Finding). f.part) all) more (map (λ (f : Finding). f.part) others) are.pieces then.pieces);
    each = All-append IsOwn all others are.each then.each;
  }

  Holding : Part → Type 0
  Holding part = IsFound target relation Words part Holds

  -- The relation holds on a range if it does so on both pieces.
  joined : (part front back : Part) → IsCutInto part front back → Holding front → Holding back → Holding part
  unfolding Holding
  joined (Named number) front back is in_front in_back = absurd is
  joined (Unnamed least greatest) front back (border, low, high, front_is, back_is) in_front in_back = λ r own.
      elim (cases_lt (word_at r 0) border) [
        | inl less ↦ subst Holding front_is in_front r (own.0, own.1, own.2, omega (arith, less))
        | inr more ↦ subst Holding back_is in_back r (own.0, own.1, more, own.3)
      ]
  joined (Elsewhere least greatest) front back (border, low, high, front_is, back_is) in_front in_back = λ r own.
      elim (cases_lt (word_at r 4) border) [
        | inl less ↦ subst Holding front_is in_front r (own.0, own.1, omega (arith, less))
        | inr more ↦ subst Holding back_is in_back r (own.0, more, own.2)
      ]

  -- The relation holds on each part if it does so on each piece.
  pub parts_joined : (parts pieces : List Part) → AreCut parts pieces → All (λ part. IsFound target relation Words part Holds) pieces
      → All (λ part. IsFound target relation Words part Holds) parts
  unfolding Holding
  parts_joined parts pieces (nothing none no_piece) each = subst (All Holding) (sym none) (All-nil Holding)
  parts_joined parts pieces (whole {more} {others} {part} own is are) each =
      let all = subst (All Holding) are each in
      subst (All Holding) (sym is)
      (All-cons Holding part more (All-head Holding part others all) (parts_joined more others own (All-tail Holding part others all)))
  parts_joined parts pieces (cut {more} {others} {part} {front} {back} into own is are) each =
      let all = subst (All Holding) are each in
      let rest = parts_joined (back ∷ more) others own (All-tail Holding front others all) in
      let here = joined part front back into (All-head Holding front others all) (All-head Holding back more rest) in
      subst (All Holding) (sym is) (All-cons Holding part more here (All-tail Holding back more rest))

  -- What is found on a part, by itself.
  pub one_found : (part : Part) (f : Finding) → f.part ≡ part → IsFound target relation Words f.part f.answer
      → AreAllFound target relation Words (part ∷ []) (f ∷ [])
  unfolding IsOwn
  one_found part f is own = record {
    pieces = whole (nothing refl refl) refl (ap (λ p. p ∷ []) is);
    each = All-cons IsOwn f [] own (All-nil IsOwn);
  }

  -- What is found on a piece, and on all that is behind it, is found on the part.
  pub more_found : (part front back : Part) (f : Finding) (more : List Finding) → IsCutInto part front back → f.part ≡ front
      → IsFound target relation Words f.part f.answer → AreAllFound target relation Words (back ∷ []) more
      → AreAllFound target relation Words (part ∷ []) (f ∷ more)
  unfolding IsOwn
  more_found part front back f more into is own then = record {
    pieces = cut into then.pieces refl (ap (λ p. p ∷ map (λ (f : Finding). f.part) more) is);
    each = All-cons IsOwn f more own then.each;
  }

  -- On no part nothing is found.
  pub none_found : AreAllFound target relation Words [] []
  unfolding IsOwn
  none_found = record { pieces = nothing refl refl; each = All-nil IsOwn }
