-- Filters beside each other: one that is taken out of a map, and maps of the same filters.
use Rattle.std.proofs.Common.{◌≡◌, ◌∙◌, ⊎_elim, ℕ, Bool, List, [], ◌∷◌, Option, Some, None, IfSome, String, Global}
use Rattle.std.proofs.Common.{string_bytes, bytes_eq, cond, sym, subst, refl}
use Rattle.std.specs.Cmp.Lexicographic.{bytes_decides, slice_cmp}
use Rattle.std.specs.List.{AllZip}
use Rattle.std.specs.Map.{lookup, update}
use Rattle.std.specs.Ordering.{is_eq, nat_cmp}
use Rattle.std.proofs.lemmas.Bool.{cases_Bool, cond-true, cond-false}
use Rattle.seccompiler.specs.Equality.{IsSameEntry}
use Rattle.seccompiler.specs.JsonTypes.{JsonFilter}
use Rattle.seccompiler.specs.declared.json.types.JsonFilterMap.{JsonFilterMap}
use Rattle.seccomp_learn.specs.Written.{beside, found_in}

-- If one is taken out from under its name, all were this one beside the others.
pub beside_others : (all others : List ℕ → Option JsonFilter) (name : List ℕ) (filter : JsonFilter)
    → ((other : List ℕ) → others other ≡ update bytes_eq all name None other) → all name ≡ Some filter
    → all ≡ beside others name filter
beside_others all others name filter without there = λ i other. at other i
  where
    at : (other : List ℕ) → all other ≡ beside others name filter other
    at other = ⊎_elim
        (λ same. subst (λ o. all o ≡ Some filter) ((bytes_decides name other).0 same) there
        ∙ sym (cond-true (bytes_eq name other) (Some filter) (others other) same))
        (λ differs. sym (without other ∙ cond-false (bytes_eq name other) None (all other) differs)
        ∙ sym (cond-false (bytes_eq name other) (Some filter) (others other) differs))
        (cases_Bool (bytes_eq name other))

-- Entries with the same names and filters are found alike.
same_lookup : (test : List ℕ → Bool) (ps qs : List (String Global × JsonFilter)) → AllZip IsSameEntry ps qs
    → lookup (λ k. test (string_bytes k)) ps ≡ lookup (λ k. test (string_bytes k)) qs
same_lookup test [] [] same = refl
same_lookup test (p ∷ ps) (q ∷ qs) same =
    let rest = same_lookup test ps qs same.1 in λ i. cond (test (same.0.0 i)) (Some (same.0.1 i)) (rest i)
same_lookup test [] (q ∷ qs) same = absurd same
same_lookup test (p ∷ ps) [] same = absurd same

-- Maps with the same entries have the same filters.
pub same_filters : (m n : JsonFilterMap) → AllZip IsSameEntry m.0.entries n.0.entries → found_in m ≡ found_in n
same_filters m n same = λ i name. same_lookup (λ bytes. is_eq (slice_cmp nat_cmp name bytes)) m.0.entries n.0.entries same i

-- The same of what was found, if something was.
pub taken_out : (all others : List ℕ → Option JsonFilter) (name : List ℕ) (found : Option JsonFilter) → found ≡ all name
    → ((other : List ℕ) → others other ≡ update bytes_eq all name None other)
    → IfSome found (λ filter. all ≡ beside others name filter)
taken_out all others name None is without = tt
taken_out all others name (Some filter) is without = beside_others all others name filter without (sym is)
