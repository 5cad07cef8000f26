-- What `diff` gives: on which calls a new side rules otherwise than an old one, or permits more.
use Rattle.std.specs.Prelude.{◌≡◌, ◌≢◌, ℕ, Bool, true, false, ◌+◌, ◌-◌, ◌^◌, ◌⊎◌, List, [], ◌∷◌, map, All, Contains, Option, Some, None}
use Rattle.std.specs.Prelude.{string_bytes, ◌&&◌, ⊤}
use Rattle.seccompiler.specs.declared.backend.TargetArch.{TargetArch}
use Rattle.seccomp_compare.specs.declared.Relation.{Relation}
use Rattle.seccompiler.specs.Architecture.{audit_word}
use Rattle.seccomp_compare.specs.Compare.{Related}
use Rattle.seccompiler.specs.JsonAnswers.{ArePoliciesOf, OfValue}
use Rattle.seccompiler.specs.Machine.{IsRecord, word_at}
use Rattle.seccompiler.specs.Policy.{Filter}
use Rattle.seccomp_answers.specs.declared.diff.Diff.{Diff}
use Rattle.seccomp_answers.specs.declared.diff.Diff.TheVariants.{ByName, OfPair}
use Rattle.seccomp_answers.specs.declared.diff.Found.{Found}
use Rattle.seccomp_answers.specs.declared.diff.Found.TheVariants.{OnlyOld, OnlyNew, Both}
use Rattle.seccomp_answers.specs.declared.diff.NamedFound.{NamedFound}
use Rattle.seccomp_answers.specs.declared.diff.Pair.{Pair}
use Rattle.seccomp_answers.specs.declared.diff.Scope.{Scope}
use Rattle.seccomp_answers.specs.declared.diff.Scope.TheVariants as scope
use Rattle.seccomp_answers.specs.declared.findings.Finding.{Finding}
use Rattle.seccomp_answers.specs.declared.findings.Part.{Part}
use Rattle.seccomp_answers.specs.declared.findings.Part.TheVariants as part
use Rattle.seccomp_answers.specs.declared.findings.Verdict.{Verdict}
use Rattle.seccomp_answers.specs.declared.findings.Verdict.TheVariants.{Same, Different}
use Rattle.seccomp_answers.specs.declared.kind.Subject.{Subject}
use Rattle.seccomp_answers.specs.declared.kind.Subject.TheVariants as subject
use Rattle.seccomp_answers.specs.declared.sides.Side.{Side}
use Rattle.seccomp_answers.specs.Findings.{AreFoundOn, verdict_of, worse}
use Rattle.seccomp_answers.specs.Rulings.{AreDecided, AreFindingsOf, Ruling, of_filter}
use Rattle.seccomp_answers.specs.Sides.{IsRuling, Policies}

-- ---- two policies, name by name

-- This is found of the filters that the old and the new policy have under a name.
abbrev pub IsFoundOf : TargetArch → Relation → (old new : Option Filter) → Found → Type 0
IsFoundOf target relation (Some old) None OnlyOld = ⊤
IsFoundOf target relation None (Some new) OnlyNew = ⊤
IsFoundOf target relation (Some old) (Some new) (Both findings) =
    AreFindingsOf target relation (of_filter new) (of_filter old) findings.items
IsFoundOf target relation old new found = ⊥

-- The name under which it is found.
abbrev pub name_bytes : NamedFound → List ℕ
name_bytes named = string_bytes named.name

-- It is found of the filters that two policies have under its name.
abbrev pub IsFoundUnder : TargetArch → Relation → (old new : Policies) → NamedFound → Type 0
IsFoundUnder target relation old new named = IsFoundOf target relation (old (name_bytes named)) (new (name_bytes named)) named.found

-- Each of these is, and no name is left out under which a policy has a filter.
pub record AreFoundUnder (target : TargetArch) (relation : Relation) (old new : Policies) (all : List NamedFound) : Type 0 where
  pub each : All (IsFoundUnder target relation old new) all
  pub complete : (name : List ℕ) (f : Filter) → (old name ≡ Some f) ⊎ (new name ≡ Some f) → Contains (map name_bytes all) name

-- They are found of the policies of two texts.
pub record AreByName (target : TargetArch) (relation : Relation) (old_text new_text : List ℕ) (all : List NamedFound) : Type 0 where
  pub old : Policies
  pub new : Policies
  pub of_old : OfValue old_text (ArePoliciesOf target old)
  pub of_new : OfValue new_text (ArePoliciesOf target new)
  pub are : AreFoundUnder target relation old new all

-- ---- a pair of sides

-- The parts of the calls of other architectures: of those whose words are less than this one's, and of those whose are greater.
abbrev pub other_parts : TargetArch → List Part
other_parts target = part.Elsewhere 0 (audit_word target - 1) ∷ part.Elsewhere (audit_word target + 1) (2 ^ 32 - 1) ∷ []

-- The relation holds of the two words for every call of another architecture.
abbrev pub HoldsElsewhere : TargetArch → Relation → (List ℕ → ℕ → ℕ → Type 0) → Type 0
HoldsElsewhere target relation Words = (r : List ℕ) → IsRecord r → word_at r 4 ≢ audit_word target
    → (new : ℕ) × (old : ℕ) × Words r new old × Related relation new old

-- These are found of what the new and the old ruling decide on the calls of other architectures.
pub record AreFoundElsewhere (target : TargetArch) (relation : Relation) (new old : Ruling) (findings : List Finding) : Type 0 where
  pub are : AreFoundOn target relation (AreDecided target new old) (other_parts target) findings
  pub holds : verdict_of findings ≡ Same → HoldsElsewhere target relation (AreDecided target new old)

-- This is found of what both sides rule, on the calls of the architecture and on those of others.
pub record IsPairOf (target : TargetArch) (relation : Relation) (old_side new_side : Side) (pair : Pair) : Type 0 where
  pub old : Ruling
  pub new : Ruling
  pub of_old : IsRuling target old_side old
  pub of_new : IsRuling target new_side new
  pub own : AreFindingsOf target relation new old pair.own.items
  pub others : AreFoundElsewhere target relation new old pair.others.items

-- ---- both

-- All filters of a side are compared: it is a policy, and no filter is asked for.
abbrev pub is_whole : Side → Bool
is_whole side = is_whole_of side.kind side.filter
  where
    is_whole_of : {X : Type 0} → Subject → Option X → Bool
    is_whole_of subject.Policy None = true
    is_whole_of kind filter = false

-- It is found name by name of two texts, or of what two sides rule.
abbrev pub IsByName : TargetArch → Relation → (old_text new_text : List ℕ) → Diff → Type 0
IsByName target relation old new (ByName all) = AreByName target relation old new all.items
IsByName target relation old new (OfPair pair) = ⊥

abbrev pub IsOfPair : TargetArch → Relation → (old new : Side) → Diff → Type 0
IsOfPair target relation old new (ByName all) = ⊥
IsOfPair target relation old new (OfPair pair) = IsPairOf target relation old new pair

-- The comparison of two sides: name by name, if all filters of both are compared, or else of what both rule.
abbrev pub IsDiff : TargetArch → Relation → (old new : Side) → Diff → Type 0
IsDiff target relation old new diff = by (is_whole old && is_whole new)
  where
    by : (whole : Bool) → Type 0
    by true = IsByName target relation old.given.now new.given.now diff
    by false = IsOfPair target relation old new diff

-- A name that one text lacks is a difference, whatever the relation.
abbrev pub verdict_found : Found → Verdict
verdict_found (Both findings) = verdict_of findings.items
verdict_found found = Different

abbrev pub verdict_all : List NamedFound → Verdict
verdict_all [] = Same
verdict_all (named ∷ all) = worse (verdict_found named.found) (verdict_all all)

-- The verdict of what counts: of what is found on the architecture's calls, or on all. Of two policies that is the same.
abbrev pub verdict_in : Scope → Diff → Verdict
verdict_in counted (ByName all) = verdict_all all.items
verdict_in scope.Named (OfPair pair) = verdict_of pair.own.items
verdict_in scope.All (OfPair pair) = worse (verdict_of pair.own.items) (verdict_of pair.others.items)
