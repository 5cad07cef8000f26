-- For `SeccompFilter::clone` and `SeccompFilter::matches`: the chains that a map holds: copied with it, and found under their
-- keys.
use Rattle.std.proofs.Common.{◌≡◌, ◌↔◌, ℕ, ℤ, pos, List, [], ◌∷◌, Vec, vec_len, Global, Bool, false, Option, Some, None, All, nat_eq}
use Rattle.std.proofs.Common.{length, inl, ⊎_elim, arith, option_map, refl, sym, ap, ◌∙◌}
use Rattle.std.specs.Prelude.{IsTrue}
use Rattle.std.specs.List.{AllZip, each_same}
use Rattle.std.specs.Ordering.{int_cmp}
use Rattle.std.specs.Map.{lookup}
use Rattle.std.specs.BTreeMap.{is_at}
use Rattle.std.proofs.lemmas.Map.Made.{lookup-map_values}
use Rattle.std.proofs.lemmas.Bool.{false≢true, eqb-true}
use Rattle.seccompiler.specs.Machine.{word_at}
use Rattle.seccompiler.specs.Policy.{Rule, Chain, Filter, RuleHolds, chains_of, chain_under, ChainMatches, Matches}
use Rattle.seccompiler.proofs.Searches.{none_is_any}

-- The chains of a map's copy are the map's.
pub copied_chains : (xs ys : List (ℤ × Vec Rule Global))
    → AllZip (λ p q. (q.0 ≡ p.0) × (AllZip (λ x y. y ≡ x) p.1.items q.1.items × (vec_len q.1 ≡ vec_len p.1))) xs ys
    → chains_of ys ≡ chains_of xs
copied_chains [] [] same = refl
copied_chains (x ∷ xs) (y ∷ ys) same = λ i. (same.0.0 i, each_same _ _ same.0.1.0 i) ∷ copied_chains xs ys same.1 i
copied_chains _ _ same = absurd same

-- What a map has under a call number is the chain there.
pub found_chain : (entries : List (ℤ × Vec Rule Global)) (key : ℤ) (number : ℕ) (found : Option (Vec Rule Global))
    → key ≡ pos number → found ≡ lookup (is_at (int_cmp key)) entries
    → chain_under (chains_of entries) number ≡ option_map (λ rules. rules.items) found
found_chain entries key number found same is =
    lookup-map_values (λ (rules : Vec Rule Global). rules.items) (is_at (int_cmp (pos number))) entries
    ∙ ap (λ z. option_map (λ (rules : Vec Rule Global). rules.items) (lookup (is_at (int_cmp z)) entries)) (sym same)
    ∙ ap (option_map (λ rules. rules.items)) (sym is)

-- Where there is a chain under the call number, the policy matches exactly if the chain does.
pub matches_by_chain : (f : Filter) (r : List ℕ) (chain : Chain) (b : Bool) → chain_under f.chains (word_at r 0) ≡ Some chain
    → (IsTrue b ↔ ChainMatches chain r) → IsTrue b ↔ Matches f r
matches_by_chain f r chain b there iff = grind arith

-- Where there is none, it doesn't.
pub differs_without_chain : (f : Filter) (r : List ℕ) → chain_under f.chains (word_at r 0) ≡ None → IsTrue false ↔ Matches f r
differs_without_chain f r none = (λ e. absurd (false≢true e), λ matches. let e : None ≡ Some matches.chain = sym none ∙ matches.there in cc)

-- A chain of which no rule holds matches exactly if it is empty.
pub empty_or_any : (chain : Chain) (r : List ℕ) (empty : Bool) → empty ≡ nat_eq (length chain) 0
    → All (λ rule. RuleHolds rule r → ⊥) chain → IsTrue empty ↔ ChainMatches chain r
empty_or_any [] r empty tested none = (λ _. inl refl, λ _. tested)
empty_or_any (q ∷ chain) r empty tested none = (
  λ e. absurd (let zero = eqb-true (length (q ∷ chain)) 0 (sym tested ∙ e) in omega (arith, zero)),
  λ matches. absurd (⊎_elim (λ empty. cc) (none_is_any (λ rule. RuleHolds rule r) (q ∷ chain) none) matches),
)
