-- What two filters decide for the calls of a number, rule by rule.
use Rattle.std.specs.Prelude.{◌≡◌, ℕ, ◌*◌, ◌<◌, ◌^◌, List, [], ◌∷◌, All, Any, Option, Some, None}
use Rattle.seccompiler.specs.declared.backend.TargetArch.{TargetArch}
use Rattle.seccompiler.specs.Architecture.{audit_word}
use Rattle.seccompiler.specs.Machine.{IsRecord, word_at}
use Rattle.seccompiler.specs.Policy.{Chain, Filter, IsDecision, Rule, chain_under, word_of}
use Rattle.seccomp_compare.specs.Compare.{Related}
use Rattle.seccomp_compare.specs.Cover.{Covers, IsCallOf, SomeHolds, open_bits}
use Rattle.seccomp_compare.specs.declared.Relation.{Relation}
use Rattle.seccomp_compare.specs.declared.covered.Cover.{Cover}
use Rattle.seccomp_compare.specs.declared.covered.Cover.TheVariants.{Covered}

-- The relation holds of what two filters decide for each call of the number.
pub record AreRelatedOn (relation : Relation) (f g : Filter) (number : ℕ) : Type 0 where
  pub related : (r : List ℕ) → IsRecord r → word_at r 0 ≡ number → (word other_word : ℕ) → IsDecision f r word
      → IsDecision g r other_word → Related relation word other_word

-- The rules of a number: those of its chain; if that has none, one without conditions.
abbrev pub rules_of : Option Chain → List Rule
rules_of None = []
rules_of (Some []) = [] ∷ []
rules_of (Some chain) = chain

abbrev pub rules_under : Filter → (number : ℕ) → List Rule
rules_under f number = rules_of (chain_under f.chains number)

-- A rule of the first filter and those of the second compare too many bits for so many sets of calls.
abbrev pub AreTooMany : (f g : Filter) (number most : ℕ) → Type 0
AreTooMany f g number most = Any (λ own. most < 2 * 2 ^ open_bits own (own ∷ rules_under g number)) (rules_under f number)

-- Why the relation isn't seen to hold: the filters are of two architectures, or it doesn't hold of their actions, the one's beside the
-- other's; or it doesn't hold for some call; or the rules compare too many bits.
pub data IsNotSeen (relation : Relation) (f g : Filter) (number most : ℕ) : Type 0 where
  terms_differ : (audit_word f.target_arch ≡ audit_word g.target_arch → Related relation (word_of f.match_action) (word_of g.match_action)
      → Related relation (word_of f.mismatch_action) (word_of g.mismatch_action) → ⊥) → IsNotSeen relation f g number most
  fails : (AreRelatedOn relation f g number → ⊥) → IsNotSeen relation f g number most
  too_many : AreTooMany f g number most → IsNotSeen relation f g number most
  too_many_back : AreTooMany g f number most → IsNotSeen relation f g number most

-- ---- between the private functions

-- One of the other rules holds wherever each of these does.
abbrev pub AreCovered : TargetArch → (number : ℕ) → (rules others : List Rule) → Type 0
AreCovered arch number rules others = All (λ own. (r : List ℕ) → IsCallOf arch number own r → SomeHolds others r) rules

-- It isn't seen for one of these.
abbrev pub IsOneUncovered : TargetArch → (number most : ℕ) → (rules others : List Rule) → Type 0
IsOneUncovered arch number most rules others =
    Any (λ own. (cover : Cover) × (cover ≡ Covered → ⊥) × Covers arch number own others most cover) rules
