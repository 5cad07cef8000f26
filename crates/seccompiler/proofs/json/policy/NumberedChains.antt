-- For `JsonCompiler::make_seccomp_filter`, `JsonCompiler::widened` and `widened_numbers`: chains
-- under ascending numbers: there are some for any numbers, and what is found under each tells them.
use Rattle.std.proofs.Common.{◌≡◌, ℤ, List, [], ◌∷◌, map, cond, Some, None, Less, ◌↔◌, refl, sym, ap, ◌∙◌, arith}
use Rattle.std.specs.Prelude.{T}
use Rattle.std.specs.FinMap.{FinMap, entries, from_entries, entries_sorted, get-entries, get-from_entries}
use Rattle.std.specs.FinMap.Entries.{below_all, find, is_sorted, same_entries}
use Rattle.std.specs.List.{AllByRecursion, list_any}
use Rattle.std.specs.List.Sorted.{IsStrictlySortedBy}
use Rattle.std.specs.Map.{keys_of}
use Rattle.std.specs.Ordering.{int_cmp, int_eq}
use Rattle.std.proofs.lemmas.Bool.Decides.{Decides-int_eq}
use Rattle.std.proofs.lemmas.Cmp.{int_cmp_total}
use Rattle.std.proofs.lemmas.Map.Lookups.{exact_signed}
use Rattle.seccompiler.specs.Policy.{Chain}
use Rattle.seccompiler.specs.JsonPolicyOf.{chain_at}

-- A look-up in a list is the one of std's finite maps.
as_found : (q : ℤ) (chains : List (ℤ × Chain)) → chain_at chains q ≡ find int_cmp q chains
as_found q [] = refl
as_found q (e ∷ chains) = ap (cond (int_eq q e.0) (Some e.1)) (as_found q chains)

-- So is the order of the numbers.
above : (k : ℤ) (chains : List (ℤ × Chain)) → T (below_all int_cmp k chains) ↔ AllByRecursion (λ y. int_cmp k y ≡ Less) (keys_of chains)
above k [] = (λ h. tt, λ h. tt)
above k (e ∷ chains) = let rest = above k chains in grind arith

ascends : (chains : List (ℤ × Chain)) → T (is_sorted int_cmp chains) ↔ IsStrictlySortedBy int_cmp (keys_of chains)
unfolding IsStrictlySortedBy
ascends [] = (λ h. tt, λ h. tt)
ascends (e ∷ chains) = let first = above e.0 chains in let rest = ascends chains in grind arith

-- What is meant for some numbers, as a list and as a finite map.
abbrev meant : (ℤ → Chain) → List ℤ → List (ℤ × Chain)
meant chain_for numbers = map (λ number. (number, chain_for number)) numbers

found_meant : (chain_for : ℤ → Chain) (q : ℤ) (numbers : List ℤ)
    → find int_cmp q (meant chain_for numbers) ≡ cond (list_any (int_eq q) numbers) (Some (chain_for q)) None
found_meant chain_for q [] = refl
found_meant chain_for q (k ∷ numbers) = grind (arith, found_meant chain_for q numbers, Decides-int_eq q k)

-- Chains in which each of some numbers, and no other, has the chain that is meant for it.
pub record AreNumbered (chain_for : ℤ → Chain) (numbers : List ℤ) : Type 0 where
  pub chains : List (ℤ × Chain)
  pub each : (q : ℤ) → chain_at chains q ≡ cond (list_any (int_eq q) numbers) (Some (chain_for q)) None
  pub ascending : IsStrictlySortedBy int_cmp (keys_of chains)

pub numbered : (chain_for : ℤ → Chain) (numbers : List ℤ) → AreNumbered chain_for numbers
numbered chain_for numbers =
    let all : FinMap int_cmp Chain = from_entries (meant chain_for numbers) in
    record {
      chains = entries all;
      each = λ q. as_found q (entries all) ∙ sym (get-entries all q) ∙ get-from_entries int_cmp_total (meant chain_for numbers) q
          ∙ found_meant chain_for q numbers;
      ascending = (ascends (entries all)).0 (entries_sorted all);
    }

-- Chains in ascending order of their numbers are the same where each number has the same.
pub same_chains : (xs ys : List (ℤ × Chain)) → IsStrictlySortedBy int_cmp (keys_of xs)
    → IsStrictlySortedBy int_cmp (keys_of ys) → ((q : ℤ) → chain_at xs q ≡ chain_at ys q) → xs ≡ ys
same_chains xs ys first second same = same_entries int_cmp int_cmp_total exact_signed xs ys ((ascends xs).1 first) ((ascends ys).1 second)
    (λ q. sym (as_found q xs) ∙ same q ∙ as_found q ys)
