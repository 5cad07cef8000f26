use Rattle.std.proofs.Common.{◌≡◌, ◌≢◌, ◌↔◌, ℕ, Bool, true, false, IsTrue, refl, sym, ◌∙◌}
use Rattle.std.specs.Prelude.{not}
use Rattle.std.proofs.lemmas.Bool.{false≢true}
use Rattle.std.proofs.lemmas.Nat.{and_assoc}
use Rattle.seccomp_compare.proofs.values.has_bits.Goals as goal

-- what is not 0 is so exactly if it isn't said to be 0
other_than_zero : (is_zero : Bool) (n m : ℕ) → n ≡ m → (IsTrue is_zero ↔ m ≡ 0) → (IsTrue (not is_zero) ↔ n ≢ 0)
other_than_zero true n m same says = (λ no. absurd (false≢true no), λ other. absurd (other (same ∙ says.0 refl)))
other_than_zero false n m same says = (λ _ zero. false≢true (says.1 (sym same ∙ zero)), λ _. refl)

pub returns : goal.returns
returns c = λ x fits has.
    other_than_zero c.in_ok-is_zero.is_zero _ _ (and_assoc c.args.k x c.args.mask) (c.in_ok-is_zero.ensures x fits has)
