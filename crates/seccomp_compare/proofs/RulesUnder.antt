-- For `rules`: the rules of a call's number, and what is decided by them.
use Rattle.std.proofs.Common.{◌≡◌, ℕ, ℤ, pos, List, [], ◌∷◌, Vec, Global, Option, Some, None, Bool, true, false, ◌==◌, ◌⊎◌, ◌↔◌}
use Rattle.std.proofs.Common.{length, inl, inr, ⊎_elim, arith, option_map, refl, sym, ap, ◌∙◌, subst}
use Rattle.std.specs.Prelude.{All, Contains}
use Rattle.std.specs.Ordering.{int_cmp}
use Rattle.std.specs.Map.{lookup}
use Rattle.std.specs.BTreeMap.{is_at}
use Rattle.std.proofs.lemmas.Map.Made.{lookup-map_values}
use Rattle.std.proofs.lemmas.Bool.{false≢true}
use Rattle.std.proofs.lemmas.Bool.Decides.{nat_tests}
use Rattle.std.proofs.lemmas.List.Elements.{All-contains, All-nil}
use Rattle.std.proofs.lemmas.List.Quantifiers.{Any-push}
use Rattle.seccompiler.specs.declared.backend.TargetArch.{TargetArch}
use Rattle.seccompiler.specs.Architecture.{audit_word}
use Rattle.seccompiler.specs.Machine.{IsRecord, word_at}
use Rattle.seccompiler.specs.Policy.{Chain, ChainMatches, Condition, Filter, Holds, IsDecision, Matches, Rule, RuleHolds}
use Rattle.seccompiler.specs.Policy.{chain_under, chains_of}
use Rattle.seccompiler.specs.Policy.{other_architecture, policy_matches, policy_differs, word_of}
use Rattle.seccomp_compare.specs.Compare.{Related}
use Rattle.seccomp_compare.specs.Cover.{Covers, SomeHolds}
use Rattle.seccomp_compare.specs.Rules.{AreCovered, AreRelatedOn, AreTooMany, IsNotSeen, IsOneUncovered, fails, rules_of, rules_under}
use Rattle.seccomp_compare.specs.Rules.{too_many, too_many_back}
use Rattle.seccomp_compare.specs.declared.Relation.{Relation}
use Rattle.seccomp_compare.specs.declared.Relation.TheVariants.{Alike, AtMostAsPermissive}
use Rattle.seccomp_compare.specs.declared.covered.Cover.{Cover}
use Rattle.seccomp_compare.specs.declared.covered.Cover.TheVariants.{Covered, Escapes, Undecided}

-- ---- the rules of a number

-- what a map has under a number is the chain there
pub found_chain : (entries : List (ℤ × Vec Rule Global)) (key : ℤ) (number : ℕ) (found : Option (Vec Rule Global))
    → key ≡ pos number → found ≡ lookup (is_at (int_cmp key)) entries
    → chain_under (chains_of entries) number ≡ option_map (λ rules. rules.items) found
found_chain entries key number found same is =
    lookup-map_values (λ (rules : Vec Rule Global). rules.items) (is_at (int_cmp (pos number))) entries
    ∙ ap (λ z. option_map (λ (rules : Vec Rule Global). rules.items) (lookup (is_at (int_cmp z)) entries)) (sym same)
    ∙ ap (option_map (λ rules. rules.items)) (sym is)

pub of_some : (chain : Chain) → (chain ≡ [] → ⊥) → rules_of (Some chain) ≡ chain
of_some [] some = absurd (some refl)
of_some (q ∷ qs) some = refl

-- a vector is empty if it has no items
pub no_items : (xs : List Rule) (n : ℕ) (empty : Bool) → n ≡ length xs → empty ≡ (n == 0) → empty ≡ true → xs ≡ []
no_items [] n empty long is full = refl
no_items (x ∷ xs) n empty long is full = absurd (grind (arith, nat_tests, long, is, full))

pub some_items : (xs : List Rule) (n : ℕ) (empty : Bool) → n ≡ length xs → empty ≡ (n == 0) → empty ≡ false → xs ≡ [] → ⊥
some_items [] n empty long is not none = grind (arith, nat_tests, long, is, not)
some_items (x ∷ xs) n empty long is not none = cc

-- a filter matches a call exactly if one of the rules of its number holds
module _ (f : Filter) (number : ℕ) (r : List ℕ) (own : word_at r 0 ≡ number) where
  by_found : (found : Option Chain) → chain_under f.chains number ≡ found → (Matches f r ↔ SomeHolds (rules_of found) r)
  by_found None is =
      let there = ap (chain_under f.chains) own ∙ is in (
        λ matches. let other : None ≡ Some matches.chain = sym there ∙ matches.there in cc,
        λ any. absurd (omega (arith, any.2)),
      )
  by_found (Some []) is = (
    λ matches. Any-push (λ (q : Rule). RuleHolds q r) [] [] (All-nil (λ (c : Condition). Holds c r)),
    λ any. record { chain = []; there = ap (chain_under f.chains) own ∙ is; matches = inl refl },
  )
  by_found (Some (q ∷ qs)) is =
      let there = ap (chain_under f.chains) own ∙ is in (
        λ matches.
            let same : Some matches.chain ≡ Some (q ∷ qs) = sym matches.there ∙ there in
            let here : matches.chain ≡ q ∷ qs = cc in
            ⊎_elim (λ empty. let no : ⊥ = cc in absurd no) (λ any. any) (subst (λ chain. ChainMatches chain r) here matches.matches),
        λ any. record { chain = q ∷ qs; there = there; matches = inr any },
      )

  pub matches_by : Matches f r ↔ SomeHolds (rules_under f number) r
  matches_by = by_found (chain_under f.chains number) refl

-- ---- what is decided

-- a rule that is one of others
pub some_of : (others few : List Rule) (r : List ℕ) → All (Contains others) few → SomeHolds few r → SomeHolds others r
some_of others few r are any =
    let within = All-contains (Contains others) few any.1 are (any.0, any.2, any.3) in
    (within.0, any.1, within.1, within.2, any.4)

-- the same of equal words
pub same_words : (relation : Relation) (w v x y : ℕ) → w ≡ x → v ≡ y → (Related relation w v ↔ Related relation x y)
same_words relation w v x y first second = (
  λ related. subst (λ n. Related relation n y) first (subst (λ n. Related relation w n) second related),
  λ related. subst (λ n. Related relation n v) (sym first) (subst (λ n. Related relation x n) (sym second) related),
)

-- words that are related, or rules that are covered
pub same_apart : (relation : Relation) (arch : TargetArch) (number : ℕ) (is : Bool) (w v x y : ℕ) (a b c d : List Rule)
    → (is ≡ true → Related relation w v) → w ≡ x → v ≡ y → a ≡ c → b ≡ d → (is ≡ true) ⊎ AreCovered arch number a b
    → Related relation x y ⊎ AreCovered arch number c d
same_apart relation arch number is w v x y a b c d test first second rules others apart =
    ⊎_elim
    (λ yes. inl ((same_words relation w v x y first second).0 (test yes)))
    (λ covered. inr (subst (λ qs. AreCovered arch number qs d) rules (subst (λ qs. AreCovered arch number a qs) others covered)))
    apart

itself : (relation : Relation) (word : ℕ) → Related relation word word
itself Alike word = refl
itself AtMostAsPermissive word = omega arith

module _ (relation : Relation) (f g : Filter) (number : ℕ) (own : TargetArch) (same : own ≡ f.target_arch)
    (arch : audit_word f.target_arch ≡ audit_word g.target_arch) where
  -- where these rules are covered by those, the one filter matches no record that the other doesn't
  within : (p q : Filter) → AreCovered own number (rules_under p number) (rules_under q number) → (r : List ℕ) → IsRecord r
      → word_at r 4 ≡ audit_word f.target_arch → word_at r 0 ≡ number → Matches p r → (Matches q r → ⊥) → ⊥
  within p q covered r rec here is matches not =
      let any = (matches_by p number r is).0 matches in
      let holds = subst (λ (q : Rule). RuleHolds q r) (sym any.3) any.4 in
      not ((matches_by q number r is).1 (covered any.0 any.1 any.2 r record {
        record_is = rec;
        arch_is = here ∙ sym (ap audit_word same);
        number_is = is;
        holds = holds;
      }))

  pub related_on : Related relation (word_of f.match_action) (word_of g.match_action)
      → Related relation (word_of f.mismatch_action) (word_of g.mismatch_action)
      → Related relation (word_of f.match_action) (word_of g.mismatch_action)
      ⊎ AreCovered own number (rules_under f number) (rules_under g number)
      → Related relation (word_of f.mismatch_action) (word_of g.match_action)
      ⊎ AreCovered own number (rules_under g number) (rules_under f number)
      → AreRelatedOn relation f g number
  related_on matched default first second = record { related = by_decisions }
    where
      by_decisions : (r : List ℕ) → IsRecord r → word_at r 0 ≡ number → (word other_word : ℕ) → IsDecision f r word
          → IsDecision g r other_word → Related relation word other_word
      by_decisions r rec at word other (other_architecture apart is) (other_architecture _ too) = rw is (rw too (itself relation _))
      by_decisions r rec at word other (other_architecture apart is) (policy_matches here _ too) = absurd (apart (here ∙ sym arch))
      by_decisions r rec at word other (other_architecture apart is) (policy_differs here _ too) = absurd (apart (here ∙ sym arch))
      by_decisions r rec at word other (policy_matches here _ is) (other_architecture apart too) = absurd (apart (here ∙ arch))
      by_decisions r rec at word other (policy_differs here _ is) (other_architecture apart too) = absurd (apart (here ∙ arch))
      by_decisions r rec at word other (policy_matches _ _ is) (policy_matches _ _ too) = rw is (rw too matched)
      by_decisions r rec at word other (policy_differs _ _ is) (policy_differs _ _ too) = rw is (rw too default)
      by_decisions r rec at word other (policy_matches here matches is) (policy_differs _ not too) =
          rw is (rw too (⊎_elim (λ related. related) (λ covered. absurd (within f g covered r rec here at matches not)) first))
      by_decisions r rec at word other (policy_differs here not is) (policy_matches _ matches too) =
          rw is (rw too (⊎_elim (λ related. related) (λ covered. absurd (within g f covered r rec here at matches not)) second))

  module _ (most : ℕ) where
    not_seen : (p q : Filter) → (AreTooMany p q number most → IsNotSeen relation f g number most)
        → ((r : List ℕ) → IsRecord r → word_at r 4 ≡ audit_word f.target_arch → word_at r 0 ≡ number → Matches p r → (Matches q r → ⊥)
        → AreRelatedOn relation f g number → ⊥)
        → IsOneUncovered own number most (rules_under p number) (rules_under q number) → IsNotSeen relation f g number most
    not_seen p q many fail (k, rule, room, at, found) = by_cover found.0 found.1 found.2
      where
        by_cover : (c : Cover) → (c ≡ Covered → ⊥) → Covers own number rule (rules_under q number) most c
            → IsNotSeen relation f g number most
        by_cover Covered not of = absurd (not refl)
        by_cover (Escapes r) not of =
            let is = of.0.number_is in
            fails (fail r of.0.record_is (of.0.arch_is ∙ ap audit_word same) is
            ((matches_by p number r is).1 (k, rule, room, at, of.0.holds)) (λ matches. of.1 ((matches_by q number r is).0 matches)))
        by_cover Undecided not of = many (k, rule, room, at, of)

    -- the first filter matches where the second doesn't, or the other way round
    pub not_within : (is : Bool) (w v : ℕ) (rules others : List Rule) → w ≡ word_of f.match_action → v ≡ word_of g.mismatch_action
        → rules ≡ rules_under f number → others ≡ rules_under g number → (Related relation w v → is ≡ true) → is ≡ false
        → IsOneUncovered own number most rules others → IsNotSeen relation f g number most
    not_within is w v rules others first second of_f of_g test not one = not_seen f g too_many
        (λ r rec here is matches not_other related. false≢true (sym not ∙ test ((same_words relation w v _ _ first second).1
        (related.related r rec is _ _ (policy_matches here matches refl) (policy_differs (here ∙ arch) not_other refl)))))
        (subst (λ qs. IsOneUncovered own number most qs (rules_under g number)) of_f
        (subst (λ qs. IsOneUncovered own number most rules qs) of_g one))

    pub not_around : (is : Bool) (w v : ℕ) (rules others : List Rule) → w ≡ word_of f.mismatch_action → v ≡ word_of g.match_action
        → rules ≡ rules_under g number → others ≡ rules_under f number → (Related relation w v → is ≡ true) → is ≡ false
        → IsOneUncovered own number most rules others → IsNotSeen relation f g number most
    not_around is w v rules others first second of_g of_f test not one = not_seen g f too_many_back
        (λ r rec here is matches not_other related. false≢true (sym not ∙ test ((same_words relation w v _ _ first second).1
        (related.related r rec is _ _ (policy_differs here not_other refl) (policy_matches (here ∙ arch) matches refl)))))
        (subst (λ qs. IsOneUncovered own number most qs (rules_under f number)) of_g
        (subst (λ qs. IsOneUncovered own number most rules qs) of_f one))
