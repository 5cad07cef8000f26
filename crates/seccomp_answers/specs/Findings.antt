-- The sets of calls that a comparison of two programs goes through, what it finds on each, and its verdict.
use Rattle.std.specs.Prelude.{◌≡◌, ◌≢◌, ℕ, pos, ◌+◌, ◌-◌, ◌^◌, ◌<◌, ◌≤◌, ◌⊎◌, List, [], ◌∷◌, ◌++◌, map, All, Option, Some, None}
use Rattle.std.specs.Prelude.{if◌then◌else◌, Bool, true, false, IsTrue}
use Rattle.std.specs.List.{filter}
use Rattle.std.specs.Ordering.{int_eq}
use Rattle.seccompiler.specs.declared.backend.TargetArch.{TargetArch}
use Rattle.seccomp_compare.specs.declared.Relation.{Relation}
use Rattle.seccompiler.specs.Architecture.{audit_word}
use Rattle.seccompiler.specs.declared.bpf.sock_filter.{sock_filter}
use Rattle.seccomp_compare.specs.Compare.{Related}
use Rattle.seccomp_compare.specs.Machine.{Ends}
use Rattle.seccompiler.specs.Machine.{IsRecord, word_at}
use Rattle.seccompiler.specs.SyscallTable.{Pair}
use Rattle.seccomp_answers.specs.declared.findings.Part.{Part}
use Rattle.seccomp_answers.specs.declared.findings.Part.TheVariants.{Named, Unnamed, Elsewhere}
use Rattle.seccomp_answers.specs.declared.findings.Answer.{Answer}
use Rattle.seccomp_answers.specs.declared.findings.Answer.TheVariants.{Holds, Fails, Undecided}
use Rattle.seccomp_answers.specs.declared.findings.Finding.{Finding}
use Rattle.seccomp_answers.specs.declared.findings.Verdict.{Verdict}
use Rattle.seccomp_answers.specs.declared.findings.Verdict.TheVariants as verdict

-- ---- the parts of all calls

-- The first name of a call's number in a table, if it has one.
abbrev pub name_of : List Pair → ℕ → Option (List ℕ)
name_of [] n = None
name_of (pair ∷ pairs) n = if int_eq pair.1 (pos n) then Some pair.0 else name_of pairs n

abbrev pub HasName : List Pair → ℕ → Type 0
HasName table n = name_of table n ≢ None

abbrev pub LacksName : List Pair → ℕ → Type 0
LacksName table n = name_of table n ≡ None

-- The record is a call of this part: of a number of the architecture, of some numbers of it, or of other architectures.
abbrev pub IsInPart : TargetArch → Part → List ℕ → Type 0
IsInPart target (Named number) r = IsRecord r × (word_at r 4 ≡ audit_word target) × (word_at r 0 ≡ number)
IsInPart target (Unnamed least greatest) r = IsRecord r × (word_at r 4 ≡ audit_word target) × (least ≤ word_at r 0) × (word_at r 0 ≤
    greatest)
IsInPart target (Elsewhere least greatest) r = IsRecord r × (least ≤ word_at r 4) × (word_at r 4 ≤ greatest)

-- The numbers from the least to the greatest have no name, and are all that there are between two numbers with names, the
-- number where those of x32 begin (`__X32_SYSCALL_BIT` of asm/unistd.h), or an end of all numbers. All are x32's, or none is.
pub record IsGap (table : List Pair) (least greatest : ℕ) : Type 0 where
  pub some : least ≤ greatest
  pub unnamed : (n : ℕ) → least ≤ n → n ≤ greatest → LacksName table n
  pub begins : (least ≡ 0) ⊎ (HasName table (least - 1) ⊎ (least ≡ 2 ^ 30))
  pub ends : (greatest + 1 ≡ 2 ^ 32) ⊎ (HasName table (greatest + 1) ⊎ (greatest + 1 ≡ 2 ^ 30))
  pub apart : (greatest < 2 ^ 30) ⊎ (2 ^ 30 ≤ least)

-- The parts are those of the numbers below this one, in ascending order: one for each number that has a name, and one for
-- each range of numbers between these.
pub data ArePartsBelow (table : List Pair) : List Part → ℕ → Type 0 where
  no_part : {parts : List Part} {end : ℕ} → parts ≡ [] → end ≡ 0 → ArePartsBelow table parts end
  then_named : {parts front : List Part} {end number : ℕ} → ArePartsBelow table front number → HasName table number
      → parts ≡ front ++ Named number ∷ [] → end ≡ number + 1 → ArePartsBelow table parts end
  then_gap : {parts front : List Part} {end least greatest : ℕ} → ArePartsBelow table front least → IsGap table least greatest
      → parts ≡ front ++ Unnamed least greatest ∷ [] → end ≡ greatest + 1 → ArePartsBelow table parts end

-- ---- what is found

-- What is found on a part, if Words r new old says that the new side's word for the record is the one and the old side's
-- the other: that the relation holds of the words for each of these calls; or a call of them, with its words, for which it
-- doesn't, and which are the words for each of these calls if it is said so; or nothing but a call of them.
abbrev pub IsFound : (TargetArch) → Relation → (List ℕ → ℕ → ℕ → Type 0) → Part → Answer → Type 0
IsFound target relation Words part Holds = (r : List ℕ) → IsInPart target part r
    → (new : ℕ) × (old : ℕ) × Words r new old × Related relation new old
IsFound target relation Words part (Fails call old new throughout) = IsInPart target part call × Words call new old
    × (Related relation new old → ⊥) × (IsTrue throughout → (r : List ℕ) → IsInPart target part r → Words r new old)
IsFound target relation Words part (Undecided call old_place new_place) = IsInPart target part call

-- The range is cut into these two, of which both have some of its numbers.
abbrev pub IsCutInto : (whole front back : Part) → Type 0
IsCutInto (Named number) front back = ⊥
IsCutInto (Unnamed least greatest) front back = (border : ℕ) × (least < border) × (border ≤ greatest)
    × (front ≡ Unnamed least (border - 1)) × (back ≡ Unnamed border greatest)
IsCutInto (Elsewhere least greatest) front back = (border : ℕ) × (least < border) × (border ≤ greatest)
    × (front ≡ Elsewhere least (border - 1)) × (back ≡ Elsewhere border greatest)

-- The pieces are these parts, in order, each of them whole, or cut once or more often.
pub data AreCut : (parts pieces : List Part) → Type 0 where
  nothing : {parts pieces : List Part} → parts ≡ [] → pieces ≡ [] → AreCut parts pieces
  whole : {parts pieces more others : List Part} {part : Part} → AreCut more others
      → parts ≡ part ∷ more → pieces ≡ part ∷ others → AreCut parts pieces
  cut : {parts pieces more others : List Part} {part front back : Part} → IsCutInto part front back → AreCut (back ∷ more) others
      → parts ≡ part ∷ more → pieces ≡ front ∷ others → AreCut parts pieces

-- These are found on the pieces of these parts, one on each.
pub record AreAllFound (target : TargetArch) (relation : Relation) (Words : List ℕ → ℕ → ℕ → Type 0) (parts : List Part)
    (all : List Finding) : Type 0 where
  pub pieces : AreCut parts (map (λ (f : Finding). f.part) all)
  pub each : All (λ (f : Finding). IsFound target relation Words f.part f.answer) all

-- A finding is kept if the relation doesn't hold on its part, or nothing is known.
abbrev pub is_kept : Finding → Bool
is_kept f = by f.answer
  where
    by : Answer → Bool
    by Holds = false
    by other = true

-- These are kept of all that is found on the pieces of these parts.
pub record AreFoundOn (target : TargetArch) (relation : Relation) (Words : List ℕ → ℕ → ℕ → Type 0) (parts : List Part)
    (findings : List Finding) : Type 0 where
  pub all : List Finding
  pub are : AreAllFound target relation Words parts all
  pub kept : findings ≡ filter is_kept all

-- The relation holds of the two words for every call of the architecture.
abbrev pub HoldsThroughout : TargetArch → Relation → (List ℕ → ℕ → ℕ → Type 0) → Type 0
HoldsThroughout target relation Words = (r : List ℕ) → IsRecord r → word_at r 4 ≡ audit_word target
    → (new : ℕ) × (old : ℕ) × Words r new old × Related relation new old

-- The words are what the new and the old program return for the record.
pub record AreReturned (new old : List sock_filter) (r : List ℕ) (new_word old_word : ℕ) : Type 0 where
  pub new_steps : ℕ
  pub new_ends : Ends new r new_steps new_word
  pub old_steps : ℕ
  pub old_ends : Ends old r old_steps old_word

-- ---- the verdict

-- Of two verdicts together: a difference counts most, and what is undecided counts more than what is the same.
abbrev pub worse : Verdict → Verdict → Verdict
worse verdict.Different other = verdict.Different
worse verdict.Undecided verdict.Different = verdict.Different
worse verdict.Undecided other = verdict.Undecided
worse verdict.Same other = other

abbrev pub verdict_on : Answer → Verdict
verdict_on Holds = verdict.Same
verdict_on (Fails call old new throughout) = verdict.Different
verdict_on (Undecided call old_place new_place) = verdict.Undecided

-- The verdict of all that is found.
abbrev pub verdict_of : List Finding → Verdict
verdict_of [] = verdict.Same
verdict_of (f ∷ findings) = worse (verdict_on f.answer) (verdict_of findings)
