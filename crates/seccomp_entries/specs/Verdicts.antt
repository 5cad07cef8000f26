-- Whether entries are needed beside each other: which verdict of one is true.
use Rattle.std.specs.Prelude.{◌≡◌, ◌≢◌, ℕ, ◌*◌, ◌/◌, ◌<◌, ◌^◌, List, ◌∷◌, All, Contains, Some, max, IsSomeAnd, length, slice_get}
use Rattle.seccompiler.specs.declared.backend.TargetArch.{TargetArch}
use Rattle.seccompiler.specs.Architecture.{audit_word}
use Rattle.seccompiler.specs.Machine.{IsRecord, word_at}
use Rattle.seccompiler.specs.Policy.{Rule}
use Rattle.seccomp_compare.specs.Cover.{open_bits}
use Rattle.seccomp_compare.specs.declared.covered.Cover.{Cover}
use Rattle.seccomp_compare.specs.declared.covered.Cover.TheVariants.{Covered, Escapes, Undecided}
use Rattle.seccomp_entries.specs.Entries.{Entry, Meets}
use Rattle.seccomp_entries.specs.declared.verdict.Verdict.{Verdict}
use Rattle.seccomp_entries.specs.declared.verdict.Verdict.TheVariants as verdict

-- The record is of a call of the architecture, and meets the entry.
abbrev pub IsCallAt : TargetArch → Entry → List ℕ → Type 0
IsCallAt arch own r = IsRecord r × (word_at r 4 ≡ audit_word arch) × Meets r own

-- An entry at another place is so.
pub record IsBeside (entries : List Entry) (place : ℕ) (P : Entry → Type 0) : Type 0 where
  pub at : ℕ
  pub other : at ≢ place
  pub entry : Entry
  pub there : slice_get entries at ≡ Some entry
  pub is : P entry

-- The rule is that of an entry of these calls at another place.
abbrev pub IsRuleBeside : List Entry → (place number : ℕ) → Rule → Type 0
IsRuleBeside entries place number q = IsBeside entries place (λ e. (e.number ≡ number) × (e.conditions ≡ q))

-- Nothing was found out in so many sets of calls, as the entries of the call compare so many bits that this one leaves open.
pub record AreTooMany (entries : List Entry) (place most : ℕ) (own : Entry) : Type 0 where
  pub others : List Rule
  pub are : All (IsRuleBeside entries place own.number) others
  pub many : most < 2 * 2 ^ open_bits own.conditions (own.conditions ∷ others)

-- The verdict of this entry, at a place among these, is true: some call meets it and no other entry; or some call meets it, and each that
-- does meets another entry; or no call does; or there are more sets of calls than were looked at.
abbrev pub IsVerdict : TargetArch → List Entry → (place most : ℕ) → Entry → Verdict → Type 0
IsVerdict arch entries place most own verdict.Needed = (r : List ℕ) × IsCallAt arch own r × (IsBeside entries place (Meets r) → ⊥)
IsVerdict arch entries place most own verdict.Redundant =
    ((r : List ℕ) × IsCallAt arch own r) × ((r : List ℕ) → IsCallAt arch own r → IsBeside entries place (Meets r))
IsVerdict arch entries place most own verdict.Unreachable = (r : List ℕ) → IsCallAt arch own r → ⊥
IsVerdict arch entries place most own verdict.Undecided = AreTooMany entries place most own

-- How many sets of calls are looked at for each of the entries: an even share of 300000, but one at least.
abbrev pub share_of : List Entry → ℕ
share_of entries = max (300000 / max (length entries) 1) 1

-- There is a verdict for each of the entries, in their order, and each is true.
pub record AreVerdicts (arch : TargetArch) (entries : List Entry) (verdicts : List Verdict) : Type 0 where
  pub long : length verdicts ≡ length entries
  pub each : (place : ℕ) (v : Verdict) → slice_get verdicts place ≡ Some v
      → IsSomeAnd (slice_get entries place) (λ own. IsVerdict arch entries place (share_of entries) own v)

-- ---- between the private functions

-- What is said of the conditions of this entry, at a place among these, beside the others, is so: this call meets it and no other entry;
-- or each call that meets it meets another; or there are more sets of calls than were looked at.
abbrev pub CoversBeside : TargetArch → List Entry → (place most : ℕ) → Entry → Cover → Type 0
CoversBeside arch entries place most own (Escapes r) = IsCallAt arch own r × (IsBeside entries place (Meets r) → ⊥)
CoversBeside arch entries place most own Covered = (r : List ℕ) → IsCallAt arch own r → IsBeside entries place (Meets r)
CoversBeside arch entries place most own Undecided = AreTooMany entries place most own

-- The verdict of an entry by whether it is covered by no others, and by the others.
abbrev pub verdict_by : (alone beside : Cover) → Verdict
verdict_by Covered beside = verdict.Unreachable
verdict_by alone (Escapes r) = verdict.Needed
verdict_by (Escapes r) Covered = verdict.Redundant
verdict_by alone beside = verdict.Undecided

-- These are the rules of the entries of these calls below an index, but for the one at this place.
pub record AreBeside (entries : List Entry) (place number below : ℕ) (rules : List Rule) : Type 0 where
  pub are : All (IsRuleBeside entries place number) rules
  pub each : (k : ℕ) (e : Entry) → k < below → k ≢ place → slice_get entries k ≡ Some e → e.number ≡ number → Contains rules e.conditions
