-- The call numbers of a filter's chains are the keys of its map, which ascend.
use Rattle.std.proofs.Common.{◌≡◌, ℤ, List, [], ◌∷◌, Vec, Global, refl, sym, ap, ◌∙◌, subst, length, arith}
use Rattle.std.specs.List.Sorted.{IsStrictlySortedBy}
use Rattle.std.specs.Ordering.{int_cmp}
use Rattle.std.specs.Map.{keys_of}
use Rattle.seccompiler.specs.Policy.{Rule, Filter, chains_of}

-- The numbers of the chains are the keys of the map.
pub numbers_are_keys : (entries : List (ℤ × Vec Rule Global)) → keys_of (chains_of entries) ≡ keys_of entries
numbers_are_keys [] = refl
numbers_are_keys (e ∷ entries) = ap (λ keys. e.0 ∷ keys) (numbers_are_keys entries)

-- The call numbers of a map's chains ascend, since its keys do.
pub numbers_ascend : (f : Filter) (entries : List (ℤ × Vec Rule Global)) → chains_of entries ≡ f.chains
    → IsStrictlySortedBy int_cmp (keys_of entries) → IsStrictlySortedBy int_cmp (keys_of f.chains)
numbers_ascend f entries same = subst (IsStrictlySortedBy int_cmp) (sym (numbers_are_keys entries) ∙ ap keys_of same)

-- So do those of no chains.
pub no_numbers_ascend : (f : Filter) (entries : List (ℤ × Vec Rule Global)) → chains_of entries ≡ f.chains
    → length entries ≡ 0 → IsStrictlySortedBy int_cmp (keys_of f.chains)
unfolding IsStrictlySortedBy
no_numbers_ascend f [] same none = numbers_ascend f [] same tt
no_numbers_ascend f (e ∷ entries) same none = absurd (omega arith)
