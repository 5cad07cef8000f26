-- What `number_of` gives, in the words of the table.
use Rattle.std.proofs.Common.{◌≡◌, ◌≢◌, ℕ, ℤ, List, [], ◌∷◌, true, false, Option, Some, None, IfSome, IfNone, All, refl, sym, ap, subst}
use Rattle.std.proofs.Common.{arith, bytes_eq}
use Rattle.std.proofs.lemmas.Bool.Decides.{not_from_Decides}
use Rattle.std.proofs.lemmas.List.Elements.{All-nil, All-cons, All-head, All-tail}
use Rattle.std.specs.Option.{MatchOption}
use Rattle.std.proofs.lemmas.Slice.Eq.{bytes_eq-Decides}
use Rattle.seccompiler.specs.SyscallTable.{Pair, IsFirstNumber, number_of}

-- what a look-up tells: the number is that of the first pair with the name, or no pair has the name
abbrev Tells : List Pair → List ℕ → Option ℤ → Type 0
Tells table name found = MatchOption found (All (λ pair. pair.0 ≢ name) table) (IsFirstNumber table name)

-- so it does behind a pair with another name
tells-cons : (pair : Pair) (table : List Pair) (name : List ℕ) → pair.0 ≢ name → (found : Option ℤ) → Tells table name found
    → Tells (pair ∷ table) name found
tells-cons pair table name other None none = All-cons (λ pair. pair.0 ≢ name) pair table other none
tells-cons pair table name other (Some number) cut = record {
  front = pair ∷ cut.front;
  back = cut.back;
  whole = ap (λ rest. pair ∷ rest) cut.whole;
  first = All-cons (λ pair. pair.0 ≢ name) pair cut.front other cut.first;
}

number_of-tells : (table : List Pair) (name : List ℕ) → Tells table name (number_of table name)
number_of-tells [] name = All-nil (λ pair. pair.0 ≢ name)
number_of-tells (pair ∷ table) name =
    elim (bytes_eq pair.0 name) as (λ same. bytes_eq pair.0 name ≡ same → Tells (pair ∷ table) name (number_of (pair ∷ table) name)) [
      | true ↦ λ same.
          let named : pair.0 ≡ name = (bytes_eq-Decides pair.0 name).0 same in
          let here : IsFirstNumber (pair ∷ table) name pair.1 =
          record { front = []; back = table; whole = rw named refl; first = All-nil (λ pair. pair.0 ≢ name) } in
          rw same here
      | false ↦ λ apart.
          let other = not_from_Decides _ (bytes_eq-Decides pair.0 name) apart in
          rw apart (tells-cons pair table name other (number_of table name) (number_of-tells table name))
    ] refl

-- a fact on all numbers of a table holds of the one that is found
pub number_of-all : (P : ℤ → Type 0) (table : List Pair) (name : List ℕ) → All (λ pair. P pair.1) table → IfSome (number_of table name) P
number_of-all P [] name all = tt
number_of-all P (pair ∷ table) name all = let here = All-head (λ pair. P pair.1) pair table all in
    let rest = number_of-all P table name (All-tail (λ pair. P pair.1) pair table all) in grind arith

-- the number that a look-up gives is that of the first pair with the name
pub found_first : (table : List Pair) (name : List ℕ) (found : Option ℤ) → found ≡ number_of table name
    → IfSome found (IsFirstNumber table name)
found_first table name None is = tt
found_first table name (Some number) is = subst (Tells table name) (sym is) (number_of-tells table name)

-- a fact on all numbers of a table holds of the one that a look-up gives
pub found_among : (P : ℤ → Type 0) (table : List Pair) (name : List ℕ) (number : ℤ) → All (λ pair. P pair.1) table
    → Some number ≡ number_of table name → P number
found_among P table name number all is = subst (λ found. IfSome found P) (sym is) (number_of-all P table name all)

-- where a look-up gives no number, no pair has the name
pub found_nowhere : (table : List Pair) (name : List ℕ) (found : Option ℤ) → found ≡ number_of table name
    → IfNone found (All (λ pair. pair.0 ≢ name) table)
found_nowhere table name None is = subst (Tells table name) (sym is) (number_of-tells table name)
found_nowhere table name (Some number) is = tt
