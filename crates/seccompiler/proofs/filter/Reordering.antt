-- For `SeccompFilter::decide`: what a decision does not depend on: the order of rules and conditions, and the instruction pointer.
use Rattle.std.proofs.Common.{◌≡◌, ℕ, ℤ, zero, suc, pos, ◌+◌, ◌*◌, ◌<◌, ◌≤◌, List, [], ◌∷◌, length, Option, Some, Bool, true, false, cond}
use Rattle.std.proofs.Common.{refl, sym, ap, ◌∙◌, subst, arith, inl, inr}
use Rattle.std.specs.Prelude.{slice_index}
use Rattle.std.specs.List.{AllZip}
use Rattle.std.specs.List.Sorted.{IsPermutation}
use Rattle.std.specs.Map.{lookup}
use Rattle.std.specs.BTreeMap.{is_at}
use Rattle.std.specs.Ordering.{int_cmp}
use Rattle.std.proofs.lemmas.List.{nil_from_length}
use Rattle.std.proofs.lemmas.List.Elements.{All-weaker, length_all_zip}
use Rattle.std.proofs.lemmas.List.Sorted.{All-permutation, IsPermutation-sym, length_permutation}
use Rattle.seccompiler.specs.Machine.{number_at, word_at}
use Rattle.seccompiler.specs.Architecture.{audit_word}
use Rattle.seccompiler.specs.Policy.{Condition, Holds, Rule, Chain, Filter, chain_under, RuleHolds, ChainMatches, Matches, IsDecision}
use Rattle.seccompiler.specs.Policy.{operator_part, part_of, Compares, word_of, other_architecture, policy_matches, policy_differs}
use Rattle.seccompiler.specs.Reorder.{IsReorderedChain, IsReorderedEntry, IsReordered, IsSameCall}
use Rattle.seccompiler.proofs.Zipped.{Any-all_zip, all_zip_back}
use Rattle.seccompiler.proofs.Searches.{Any-permutation}

-- Records that agree in the bytes of a number agree in the number.
same_number : (r s : List ℕ) (k n : ℕ) → ((j : ℕ) → k ≤ j → j < k + n → slice_index r j ≡ slice_index s j)
    → number_at r k n ≡ number_at s k n
same_number r s k zero same = refl
same_number r s k (suc n) same =
    cc (same k (omega arith) (omega arith), same_number r s (k + 1) n (λ j low high. same j (omega arith) (omega arith)))

-- Two records of one call have the same call number and architecture word.
same_word : (r s : List ℕ) (k : ℕ) → IsSameCall r s → k ≤ 4 → word_at r k ≡ word_at s k
same_word r s k same within = same_number r s k 4 (λ j low high. same.bytes j (inl (omega arith)))

-- Two records of one call are so in either order.
same_call_back : (r s : List ℕ) → IsSameCall r s → IsSameCall s r
same_call_back r s same = record { bytes = λ k outside. sym (same.bytes k outside) }

-- A condition reads its argument alone, so it holds on any record of the call.
same_condition : (c : Condition) (r s : List ℕ) → IsSameCall r s → Holds c r → Holds c s
same_condition c r s same holds =
    let argument = same_number r s (16 + 8 * c.arg_index) 8 (λ j low high. same.bytes j (inr (omega (arith, low)))) in
    subst (λ x. Compares (operator_part c.arg_len c.operator) (part_of c.arg_len x) (part_of c.arg_len c.value)) argument holds

-- A rule holds in any order of its conditions, on any record of the call.
same_rule : (q q' : Rule) (r s : List ℕ) → IsPermutation q q' → IsSameCall r s → RuleHolds q r → RuleHolds q' s
same_rule q q' r s order same holds = All-permutation (λ c. Holds c s) q q' order
    (All-weaker (λ c. Holds c r) (λ c. Holds c s) (λ c. same_condition c r s same) q holds)

-- A chain matches in any order of its rules.
matches_in_order : (chain middle : Chain) (r : List ℕ) → IsPermutation chain middle → ChainMatches chain r → ChainMatches middle r
matches_in_order chain middle r order (inl empty) = inl (nil_from_length middle (length_permutation chain middle order ∙ ap length empty))
matches_in_order chain middle r order (inr any) = inr (Any-permutation (λ q. RuleHolds q r) chain middle order any)

-- A chain matches in any order of the conditions in its rules, on any record of the call.
matches_by_rules : (chain chain' : Chain) (r s : List ℕ) → AllZip IsPermutation chain chain'
    → IsSameCall r s → ChainMatches chain r → ChainMatches chain' s
matches_by_rules chain chain' r s pairs same (inl empty) =
    inl (nil_from_length chain' (sym (length_all_zip IsPermutation chain chain' pairs) ∙ ap length empty))
matches_by_rules chain chain' r s pairs same (inr any) =
    inr (Any-all_zip IsPermutation (λ q. RuleHolds q r) (λ q. RuleHolds q s) chain chain'
    (λ q q' order. same_rule q q' r s order same) pairs any)

-- A reordered chain matches where the first does.
chain_matches : (chain chain' : Chain) (r s : List ℕ) → IsReorderedChain chain chain'
    → IsSameCall r s → ChainMatches chain r → ChainMatches chain' s
chain_matches chain chain' r s order same matches =
    matches_by_rules order.middle chain' r s order.conditions same (matches_in_order chain order.middle r order.rules matches)

-- The first chain matches where a reordered one does.
chain_matches_back : (chain chain' : Chain) (r s : List ℕ) → IsReorderedChain chain chain'
    → IsSameCall r s → ChainMatches chain' s → ChainMatches chain r
chain_matches_back chain chain' r s order same matches =
    let pairs = all_zip_back IsPermutation IsPermutation order.middle chain' IsPermutation-sym order.conditions in
    let rules = IsPermutation-sym chain order.middle order.rules in
    matches_in_order order.middle chain r rules (matches_by_rules chain' order.middle s r pairs (same_call_back r s same) matches)

-- One step of a look-up among entries with one key each and related values.
lookup_step : {X : Type 0} (S : X → X → Type 0) (b : Bool) (v v' : X) (rest rest' : Option X) (x : X) → S v v'
    → (rest ≡ Some x → (y : X) × (rest' ≡ Some y) × S x y) → cond b (Some v) rest ≡ Some x
    → (y : X) × (cond b (Some v') rest' ≡ Some y) × S x y
lookup_step S true v v' rest rest' x pair more found = let same : v ≡ x = cc in (v', refl, subst (λ y. S y v') same pair)
lookup_step S false v v' rest rest' x pair more found = more found

-- Where the entries of two lists, place by place, have one key and related values, look-ups find related values.
lookup_all_zip : {K X : Type 0} (R : K × X → K × X → Type 0) (S : X → X → Type 0) (test : K → Bool) (es es' : List (K × X)) (x : X)
    → ((e e' : K × X) → R e e' → (e.0 ≡ e'.0) × S e.1 e'.1) → AllZip R es es' → lookup test es ≡ Some x
    → (y : X) × (lookup test es' ≡ Some y) × S x y
lookup_all_zip R S test [] [] x parts pairs found = absurd (cc)
lookup_all_zip R S test (e ∷ es) (e' ∷ es') x parts pairs found = let pair = parts e e' pairs.0 in
    rw (← pair.0)
    (lookup_step S (test e.0) e.1 e'.1 (lookup test es) (lookup test es') x pair.1 (lookup_all_zip R S test es es' x parts pairs.1) found)
lookup_all_zip R S test _ _ x parts pairs found = absurd pairs

-- A filter matches where another does whose chains, entry by entry, match where its own do.
matches_by_entries : (R : ℤ × Chain → ℤ × Chain → Type 0) (f g : Filter) (r s : List ℕ)
    → ((e e' : ℤ × Chain) → R e e' → (e.0 ≡ e'.0) × (ChainMatches e.1 r → ChainMatches e'.1 s))
    → AllZip R f.chains g.chains → IsSameCall r s → Matches f r → Matches g s
matches_by_entries R f g r s parts pairs same matches = let number = word_at r 0 in
    let found = lookup_all_zip R (λ chain chain'. ChainMatches chain r → ChainMatches chain' s)
    (is_at (int_cmp (pos number))) f.chains g.chains matches.chain parts pairs matches.there in
    record {
      chain = found.0;
      there = subst (λ (n : ℕ). chain_under g.chains n ≡ Some found.0) (same_word r s 0 same (omega arith)) found.1;
      matches = found.2 matches.matches;
    }

-- A reordered filter matches where the first does, on any record of the call.
reordered_matches : (f g : Filter) (r s : List ℕ) → IsReordered f g → IsSameCall r s → Matches f r → Matches g s
reordered_matches f g r s order same = matches_by_entries IsReorderedEntry f g r s
    (λ e e' pair. (pair.number, chain_matches e.1 e'.1 r s pair.chain same)) order.chains same

-- The first filter matches where a reordered one does, on any record of the call.
reordered_matches_back : (f g : Filter) (r s : List ℕ) → IsReordered f g → IsSameCall r s → Matches g s → Matches f r
reordered_matches_back f g r s order same = matches_by_entries (λ e' e. IsReorderedEntry e e') g f s r
    (λ e' e pair. (sym pair.number, chain_matches_back e.1 e'.1 r s pair.chain same))
    (all_zip_back IsReorderedEntry (λ e' e. IsReorderedEntry e e') f.chains g.chains (λ e e' pair. pair) order.chains)
    (same_call_back r s same)

-- The order of the rules in a chain and of the conditions in a rule does not change the decision, and neither does the instruction pointer.
pub same_decision : (f g : Filter) (r s : List ℕ) (w : ℕ) → IsReordered f g → IsSameCall r s → IsDecision f r w → IsDecision g s w
same_decision f g r s w order same decision = let here = same_word r s 4 same (omega arith) in
    let arch = ap audit_word order.target_arch in elim decision [
      | other_architecture differs is ↦ other_architecture (λ e. differs (here ∙ e ∙ sym arch)) is
      | policy_matches e matches is ↦ policy_matches (sym here ∙ e ∙ arch) (reordered_matches f g r s order same matches)
          (is ∙ ap word_of order.match_action)
      | policy_differs e differs is ↦ policy_differs (sym here ∙ e ∙ arch)
          (λ matches. differs (reordered_matches_back f g r s order same matches)) (is ∙ ap word_of order.mismatch_action)
    ]
