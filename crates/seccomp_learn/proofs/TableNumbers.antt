-- For `name_of`: where a name has a number in a table, both stand side by side.
use Rattle.std.proofs.Common.{◌≡◌, ℕ, ℤ, List, [], ◌∷◌, true, false, Some, All, refl, sym, subst, bytes_eq}
use Rattle.std.specs.Prelude.{Any}
use Rattle.std.proofs.lemmas.Slice.Eq.{bytes_eq-Decides}
use Rattle.seccompiler.specs.SyscallTable.{Pair, number_of}
use Rattle.seccompiler.proofs.Searches.{any_head, any_tail}

-- The pair has this name and this number.
abbrev IsPair : List ℕ → ℤ → Pair → Type 0
IsPair name number pair = (pair.0 ≡ name) × (pair.1 ≡ number)

beside : (pairs : List Pair) (name : List ℕ) (number : ℤ) → number_of pairs name ≡ Some number → Any (IsPair name number) pairs
beside [] name number is = cc
beside (pair ∷ pairs) name number is =
    elim (bytes_eq pair.0 name) as (λ same. bytes_eq pair.0 name ≡ same → Any (IsPair name number) (pair ∷ pairs)) [
      | true ↦ λ same.
          let found : Some pair.1 ≡ Some number = rw same at is in
          let number_is : pair.1 ≡ number = cc in
          any_head (IsPair name number) pair pairs ((bytes_eq-Decides pair.0 name).0 same, number_is)
      | false ↦ λ apart.
          let later : number_of pairs name ≡ Some number = rw apart at is in
          any_tail (IsPair name number) pair pairs (beside pairs name number later)
    ] refl

-- where no pair with the number is the one that its name has, no name has the number
pub no_name : (table : List Pair) (number : ℤ) → All (λ pair. pair.1 ≡ number → number_of table pair.0 ≡ Some number → ⊥) table
    → (name : List ℕ) → number_of table name ≡ Some number → ⊥
no_name table number none name is = at_pair (beside table name number is)
  where
    at_pair : Any (IsPair name number) table → ⊥
    at_pair (k, pair, within, there, both) =
        let here = subst (λ (q : Pair). q.1 ≡ number → number_of table q.0 ≡ Some number → ⊥) there (none k pair within) in
        here both.1 (subst (λ n. number_of table n ≡ Some number) (sym both.0) is)
