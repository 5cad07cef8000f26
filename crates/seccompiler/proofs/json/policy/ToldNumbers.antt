-- For `gather`, `chains_of_numbers` and `widened_numbers`: what is told of numbers, in an array over them.
use Rattle.std.proofs.Common.{◌≡◌, ℕ, ◌+◌, ◌<◌, ◌≤◌, ℤ, pos, negsuc, List, [], ◌∷◌, ◌++◌, length, get_or, replicate, Bool, true, false}
use Rattle.std.proofs.Common.{◌||◌, ◌&&◌, nat_lt, arith, w64, to_z, of_z, Some, cond}
use Rattle.std.specs.Prelude.{slice_set}
use Rattle.std.specs.List.{AllByRecursion, list_any}
use Rattle.std.specs.List.Sorted.{IsStrictlySortedBy}
use Rattle.std.specs.Ordering.{int_cmp, int_eq}
use Rattle.std.specs.declared.cmp.Ordering.TheVariants.{Less}
use Rattle.std.proofs.lemmas.Bool.Decides.{Decides-int_eq, nat_tests}
use Rattle.std.proofs.lemmas.Int.{to_z-of_z, ints}
use Rattle.std.proofs.lemmas.List.Folds.{list_any-append}
use Rattle.std.proofs.lemmas.List.{append-nil, get_or-set_same, get_or-set_other, get_or-replicate, get_or_past, length-replicate}
use Rattle.seccompiler.specs.JsonGathered.{told_of}
use Rattle.seccompiler.specs.SyscallTable.{Pair, IsCallTable, IsTableNumber, number_of}
use Rattle.seccompiler.proofs.TableNames.{found_among}

-- A number of a table is a place of the array.
pub record IsPlace (number : ℤ) : Type 0 where
  pub place : ℕ
  pub within : place < 463
  pub is : number ≡ pos place
  pub held : to_z w64 (of_z w64 number) ≡ pos place

place_of : (number : ℤ) → IsTableNumber number → IsPlace number
place_of number h = grind (arith, ints)

-- So is the number of a name.
pub place_of_name : (table : List Pair) (name : List ℕ) (number : ℤ) → IsCallTable table → Some number ≡ number_of table name
    → IsPlace number
place_of_name table name number all is = place_of number (found_among IsTableNumber table name number all.in_range is)

-- A place is the same number with a sign.
pub signed : (n : ℕ) → n < 463 → to_z w64 n ≡ pos n
signed n within = to_z-of_z w64 (pos n) (grind (arith, ints, within))

-- Nothing is told of any number.
pub told_none : (k : ℕ) (q : ℤ) → told_of (replicate k false) q ≡ false
told_none k q = grind (arith, nat_tests, get_or-replicate, get_or_past, length-replicate)

-- A number more is told.
pub told_more : (told : List Bool) (n : ℕ) (q : ℤ) → n < length told → told_of (slice_set told n true) q
    ≡ (told_of told q || int_eq q (pos n))
told_more told n q within = grind (arith, nat_tests, get_or-set_same, get_or-set_other)

-- What is told of the numbers below one.
abbrev pub told_below : List Bool → ℕ → ℤ → Bool
told_below told n (pos m) = nat_lt m n && get_or told m false
told_below told n (negsuc m) = false

-- Below 0 none is told.
pub told_start : (told : List Bool) (q : ℤ) → told_below told 0 q ≡ false
told_start told q = grind (arith, nat_tests)

-- All numbers.
pub told_all : (told : List Bool) (n : ℕ) (q : ℤ) → length told ≤ n → told_below told n q ≡ told_of told q
told_all told n q all = grind (arith, nat_tests, get_or_past)

-- So are the numbers that are told and have something, of which the next one is put at the end, if it has.
listed_next : (told : List Bool) (n : ℕ) (has : ℤ → Bool) (numbers : List ℤ) (b : Bool) (q : ℤ) → (get_or told n false && has (pos n)) ≡ b
    → list_any (int_eq q) numbers ≡ (told_below told n q && has q)
    → list_any (int_eq q) (numbers ++ cond b (pos n ∷ []) []) ≡ (told_below told (n + 1) q && has q)
listed_next told n has numbers b q is so_far = grind (arith, nat_tests, list_any-append, Decides-int_eq)

less_all : (n : ℕ) (numbers : List ℤ) → AllByRecursion (λ number. int_cmp number (pos n) ≡ Less) numbers
    → AllByRecursion (λ number. int_cmp number (pos (n + 1)) ≡ Less) numbers
less_all n [] h = tt
less_all n (number ∷ numbers) h = (grind (arith, ints, h.0), less_all n numbers h.1)

pushed : (P : ℤ → Type 0) (numbers : List ℤ) (number : ℤ) → AllByRecursion P numbers → P number → AllByRecursion P (numbers ++ number ∷ [])
pushed P [] number all own = (own, tt)
pushed P (first ∷ numbers) number all own = (all.0, pushed P numbers number all.1 own)

sorted_push : (n : ℕ) (numbers : List ℤ) → IsStrictlySortedBy int_cmp numbers
    → AllByRecursion (λ number. int_cmp number (pos n) ≡ Less) numbers
    → IsStrictlySortedBy int_cmp (numbers ++ pos n ∷ [])
unfolding IsStrictlySortedBy
sorted_push n [] sorted below = (tt, tt)
sorted_push n (number ∷ numbers) sorted below = (
  pushed (λ other. int_cmp number other ≡ Less) numbers (pos n) sorted.0 below.0,
  sorted_push n numbers sorted.1 below.1,
)

-- These are the numbers below n that are told and have something, ascending.
pub record AreListed (told : List Bool) (has : ℤ → Bool) (n : ℕ) (numbers : List ℤ) : Type 0 where
  pub listed : (q : ℤ) → list_any (int_eq q) numbers ≡ (told_below told n q && has q)
  pub ascending : IsStrictlySortedBy int_cmp numbers
  below : AllByRecursion (λ number. int_cmp number (pos n) ≡ Less) numbers

module _ (told : List Bool) (has : ℤ → Bool) where
  pub none_listed : AreListed told has 0 []
  unfolding IsStrictlySortedBy
  none_listed = record { listed = λ q. grind (arith, nat_tests); ascending = tt; below = tt }

  -- The next number is no such one.
  pub next_not_listed : (n : ℕ) (numbers : List ℤ) → (get_or told n false && has (pos n)) ≡ false → AreListed told has n numbers
      → AreListed told has (n + 1) numbers
  next_not_listed n numbers not are = grind (arith, append-nil, listed_next, less_all)

  -- It is one.
  pub next_listed : (n : ℕ) (numbers : List ℤ) → (get_or told n false && has (pos n)) ≡ true → AreListed told has n numbers
      → AreListed told has (n + 1) (numbers ++ pos n ∷ [])
  next_listed n numbers is are = record {
    listed = λ q. listed_next told n has numbers true q is (are.listed q);
    ascending = sorted_push n numbers are.ascending are.below;
    below = pushed (λ number. int_cmp number (pos (n + 1)) ≡ Less) numbers (pos n) (less_all n numbers are.below) (grind (arith, ints));
  }
