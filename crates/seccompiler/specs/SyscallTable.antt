-- Tables of system calls: the number that a name has in one, and how many names a look-up by halving compares.
use Rattle.std.specs.Prelude.{◌≡◌, ◌≢◌, ℕ, suc, ℤ, ◌+◌, ◌⊎◌, List, [], ◌∷◌, ◌++◌, length, if◌then◌else◌, Option, Some, None, All}
use Rattle.std.specs.Cmp.Lexicographic.{slice_cmp}
use Rattle.std.specs.Ordering.{nat_cmp}
use Rattle.std.specs.Str.{bytes_eq}
use Rattle.std.specs.declared.cmp.Ordering.TheVariants.{Less}
pub use Rattle.seccomp_tables.specs.Tables.{Pair, StandsBefore, IsTableNumber, IsCallTable}

-- The number of the first pair with this name, if there is one.
abbrev pub number_of : List Pair → List ℕ → Option ℤ
number_of [] name = None
number_of (pair ∷ pairs) name = if bytes_eq pair.0 name then Some pair.1 else number_of pairs name

-- This is the number of the first pair with this name: the table has that pair, and none before it has the name.
pub record IsFirstNumber (table : List Pair) (name : List ℕ) (number : ℤ) : Type 0 where
  pub front : List Pair
  pub back : List Pair
  pub whole : table ≡ front ++ (name, number) ∷ back
  pub first : All (λ pair. pair.0 ≢ name) front

-- One name comes before another in byte order.
abbrev pub ComesBefore : List ℕ → List ℕ → Type 0
ComesBefore first second = slice_cmp nat_cmp first second ≡ Less

-- The pair in the middle of a part of a table: as many pairs stand in front of it as after it, or one more.
pub record IsMiddle (part front : List Pair) (middle : Pair) (back : List Pair) : Type 0 where
  pub whole : part ≡ front ++ middle ∷ back
  pub halves : (length front ≡ length back) ⊎ (length front ≡ length back + 1)

-- A look-up by halving compares the asked name with so many names of a part of a table: with none if the part is empty;
-- else with the middle one, and, if that is another, with those of the half on whose side the asked name stands.
pub data HalvingCompares (name : List ℕ) : List Pair → ℕ → Type 0 where
  none_left : HalvingCompares name [] 0
  at_middle : {part front back : List Pair} {middle : Pair} → IsMiddle part front middle back → name ≡ middle.0
      → HalvingCompares name part 1
  before_middle : {part front back : List Pair} {middle : Pair} {n : ℕ} → IsMiddle part front middle back → ComesBefore name middle.0
      → HalvingCompares name front n → HalvingCompares name part (suc n)
  behind_middle : {part front back : List Pair} {middle : Pair} {n : ℕ} → IsMiddle part front middle back → ComesBefore middle.0 name
      → HalvingCompares name back n → HalvingCompares name part (suc n)
