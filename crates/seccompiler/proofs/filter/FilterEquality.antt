-- For `SeccompFilterPartialEq::eq`: what the code computes of two filters is the test of equality.
use Rattle.std.proofs.Common.{ℤ, ◌≡◌, ◌&&◌, Bool, true, false, ◌⊎◌, List, [], ◌∷◌, Vec, Global, refl, ap, arith}
use Rattle.std.specs.Ordering.{int_eq}
use Rattle.std.specs.Cmp.Lexicographic.{pointwise}
use Rattle.seccompiler.specs.contracts.backend.SeccompActionPartialEq.TheImpl as action
use Rattle.seccompiler.specs.contracts.backend.TargetArchPartialEq.TheImpl as arch
use Rattle.seccompiler.specs.Policy.{Rule, Filter, chains_of}
use Rattle.seccompiler.specs.Equality.{are_rules_equal, are_entries_equal, are_filters_equal}

-- Maps are equal where their chains are.
pub maps_equal : (xs ys : List (ℤ × Vec Rule Global))
    → pointwise (λ x y. int_eq x.0 y.0 && pointwise are_rules_equal x.1.items y.1.items) xs ys
    ≡ pointwise are_entries_equal (chains_of xs) (chains_of ys)
maps_equal [] [] = refl
maps_equal [] (y ∷ ys) = refl
maps_equal (x ∷ xs) [] = refl
maps_equal (x ∷ xs) (y ∷ ys) = ap (λ rest. (int_eq x.0 y.0 && pointwise are_rules_equal x.1.items y.1.items) && rest) (maps_equal xs ys)

-- The value of a further test behind a first one.
abbrev IsNextTest : Bool → Bool → Bool → Type 0
IsNextTest first test value = ((first ≡ true) × (value ≡ test)) ⊎ ((first ≡ false) × (value ≡ false))

-- Such a value is both tests, joined by and.
next_test : (first test value : Bool) → IsNextTest first test value → value ≡ (first && test)
next_test first test value h = grind arith

-- The tests of two filters' parts, one after the other, tell whether the filters are equal.
pub filters_tested : (f g : Filter) (chains first second value : Bool) → chains ≡ pointwise are_entries_equal f.chains g.chains
    → IsNextTest chains (action.ghosts.eq f.mismatch_action g.mismatch_action) first
    → IsNextTest first (action.ghosts.eq f.match_action g.match_action) second
    → IsNextTest second (arch.ghosts.eq f.target_arch g.target_arch) value → value ≡ are_filters_equal f g
filters_tested f g chains first second value is one two three = grind (arith, next_test)
