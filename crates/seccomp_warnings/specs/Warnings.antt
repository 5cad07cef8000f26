-- The warnings of a part: of what in it something is so that its author may not mean.
use Rattle.std.specs.Prelude.{◌≡◌, ◌≢◌, ℕ, ◌^◌, ◌≤◌, ◌⊎◌, List, [], ◌∷◌, ◌++◌, Contains, IsSomeAnd, bit_and, map, slice_get}
use Rattle.std.specs.List.{enumerate_from, flat_map}
use Rattle.seccompiler.specs.declared.backend.SeccompCmpArgLen.{SeccompCmpArgLen}
use Rattle.seccompiler.specs.declared.backend.SeccompCmpArgLen.TheVariants.{Dword}
use Rattle.seccompiler.specs.declared.backend.SeccompCmpOp.{SeccompCmpOp}
use Rattle.seccompiler.specs.declared.backend.SeccompCmpOp.TheVariants.{MaskedEq}
use Rattle.seccompiler.specs.declared.backend.TargetArch.{TargetArch}
use Rattle.seccompiler.specs.JsonTypes.{JsonFilter}
use Rattle.seccompiler.specs.Policy.{Condition, part_of}
use Rattle.seccomp_entries.specs.Entries.{Entry, Lowered}
use Rattle.seccomp_entries.specs.Policies.{DecidesAs, IsLoweredPolicy}
use Rattle.seccomp_entries.specs.Verdicts.{AreVerdicts}
use Rattle.seccomp_entries.specs.declared.verdict.Verdict.{Verdict}
use Rattle.seccomp_warnings.specs.ActionWarnings.{IsSoOfAction, IsSoOfBoth, IsSoOfDefault}
use Rattle.seccomp_warnings.specs.AnyArgument.{HoldsForAll, HoldsForNone, comparison_at, condition_in}
use Rattle.seccomp_warnings.specs.CallWarnings.{IsJudged, IsSoOfArgument, IsSoOfEntry, IsSoOfUnlisted}
use Rattle.seccomp_warnings.specs.Evasions.{AreEvasions}
use Rattle.seccomp_warnings.specs.Parts.{IsPartOfPolicy, Part}
use Rattle.seccomp_warnings.specs.declared.code.Code.{Code}
use Rattle.seccomp_warnings.specs.declared.code.Code.TheVariants as code
use Rattle.seccomp_warnings.specs.declared.unlisted.Unlisted.TheVariants as unlisted
use Rattle.seccomp_warnings.specs.declared.warning.Comparison.{Comparison}
use Rattle.seccomp_warnings.specs.declared.warning.FilterWarned.{FilterWarned}
use Rattle.seccomp_warnings.specs.declared.warning.Subject.{Subject}
use Rattle.seccomp_warnings.specs.declared.warning.Subject.TheVariants as subject
use Rattle.seccomp_warnings.specs.declared.warning.Warned.{Warned}
use Rattle.seccomp_warnings.specs.declared.warning.Warning.{Warning}

-- ---- what is so of a condition

-- The value has bits that the mask, as far as it is compared, doesn't have.
abbrev pub IsOutside : SeccompCmpArgLen → SeccompCmpOp → ℕ → Type 0
IsOutside length (MaskedEq mask) value = bit_and value (part_of length mask) ≢ value
IsOutside length operator value = ⊥

-- What a code says of a condition is so. Of HighHalfIgnored: the low half of the argument is compared, and the value has bits above it.
abbrev pub IsSoOfCondition : Code → Comparison → Type 0
IsSoOfCondition code.HighHalfIgnored c = (c.arg_len ≡ Dword) × (2 ^ 32 ≤ c.value)
IsSoOfCondition code.ValueOutsideMask c = IsOutside c.arg_len c.operator c.value
IsSoOfCondition code.AlwaysHolds c = HoldsForAll (condition_in c)
IsSoOfCondition code.NeverHolds c = HoldsForNone (condition_in c)
IsSoOfCondition other c = ⊥

-- ---- what is so of a part

-- What warnings of a part are about, in their order: its action for the calls that no entry matches, calls that an entry may be missing
-- for, its action for those that some entry matches, and each entry with its conditions.
abbrev pub subjects_at : ℕ × Entry → List Subject
subjects_at (place, e) = subject.Entry place ∷ map (λ (q : ℕ × Condition). subject.Condition (comparison_at place q.0 q.1))
    (enumerate_from 0 e.conditions)

abbrev pub first_subjects : Part → List Subject
first_subjects p = subject.MismatchAction p.actions.mismatch ∷ subject.MismatchCall unlisted.Exit ∷ subject.MismatchCall unlisted.ExitGroup
    ∷ subject.MismatchCall unlisted.RtSigreturn ∷ subject.MismatchCall unlisted.Clone3 ∷ subject.MismatchCall unlisted.Execve
    ∷ subject.MismatchCall unlisted.RestartSyscall ∷ subject.MatchAction p.actions.matching ∷ []

abbrev pub subjects_in : Part → List Subject
subjects_in p = first_subjects p ++ flat_map subjects_at (enumerate_from 0 p.entries)

-- The codes of what may be said of a subject, in their order.
abbrev pub action_codes : List Code
action_codes = code.FakeSuccess ∷ code.ErrnoTooLarge ∷ code.EndlessRetry ∷ code.TraceWithoutTracer ∷ code.AllowsByDefault
    ∷ code.DeniesEverything ∷ []

abbrev pub codes_about : Subject → List Code
codes_about (subject.MismatchAction action) = action_codes
codes_about (subject.MatchAction action) = action_codes
codes_about (subject.MismatchCall call) = code.KillsExit ∷ code.CloneByClone3 ∷ code.NoExecve ∷ code.NoRestart ∷ []
codes_about (subject.Entry place) = code.KillsExit ∷ code.CloneByClone3 ∷ code.SiblingAllowed ∷ code.CrateDiffers ∷ code.UnreachableEntry
    ∷ code.RedundantEntry ∷ code.UndecidedEntry ∷ []
codes_about (subject.Condition c) = code.HighHalfIgnored ∷ code.ValueOutsideMask ∷ code.AlwaysHolds ∷ code.NeverHolds
    ∷ code.PointerCompared ∷ code.SignedCompared ∷ []

-- What a code says of a subject is so, if these are the verdicts of the entries. Of a condition, by itself or on the argument of its
-- entry's call.
abbrev pub IsSoOf : Code → List Verdict → Part → Subject → Type 0
IsSoOf kind verdicts p (subject.MismatchAction action) = IsSoOfAction kind action ⊎ IsSoOfDefault kind action
IsSoOf kind verdicts p (subject.MismatchCall call) = IsSoOfUnlisted kind p call
IsSoOf kind verdicts p (subject.MatchAction action) = IsSoOfAction kind action ⊎ IsSoOfBoth kind p.actions
IsSoOf kind verdicts p (subject.Entry place) = IsJudged kind verdicts place ⊎ IsSomeAnd (slice_get p.entries place) (IsSoOfEntry kind p)
IsSoOf kind verdicts p (subject.Condition c) = IsSoOfCondition kind c
    ⊎ IsSomeAnd (slice_get p.entries c.entry) (λ e. IsSoOfArgument kind p.target_arch e.number c)

-- The warning is true of the part, and its code isn't allowed.
abbrev pub IsGiven : (allowed : List Code) → List Verdict → Part → Warning → Type 0
IsGiven allowed verdicts p w = IsSoOf w.code verdicts p w.subject × (Contains allowed w.code → ⊥)

-- The second list has exactly those of the first of which this is so, in their order.
abbrev pub AreThose : {X : Type 0} → (X → Type 0) → List X → List X → Type 0
AreThose P [] ys = ys ≡ []
AreThose {X} P (x ∷ xs) ys = ((P x → ⊥) × AreThose P xs ys) ⊎ ((zs : List X) × (ys ≡ x ∷ zs) × P x × AreThose P xs zs)

abbrev pub about : Subject → Code → Warning
about what kind = record { code = kind; subject = what }

abbrev pub warnings_about : Subject → List Warning
warnings_about what = map (about what) (codes_about what)

-- The warnings are exactly those about these subjects that are true of the part and whose codes aren't allowed.

abbrev pub AreGiven : (allowed : List Code) → List Verdict → Part → List Subject → List Warning → Type 0
AreGiven allowed verdicts p subjects given = AreThose (IsGiven allowed verdicts p) (flat_map warnings_about subjects) given

-- The verdicts of the entries of a part are true, and so are exactly its warnings.
pub record AreWarned (allowed : List Code) (p : Part) (w : Warned) : Type 0 where
  pub verdicts : AreVerdicts p.target_arch p.entries w.verdicts.items
  pub warnings : AreGiven allowed w.verdicts.items p (subjects_in p) w.warnings.items

-- The filter in one form decides as its policy. These are the warnings of the part that it is, and its evasions.
pub record AreTrueWarnings (arch : TargetArch) (allowed : List Code) (j : JsonFilter) (w : FilterWarned) : Type 0 where
  pub lowered : Lowered
  pub is_lowered : IsLoweredPolicy arch j lowered
  pub decides : DecidesAs arch j lowered
  pub is_part : IsPartOfPolicy arch j lowered w.part
  pub of_part : AreWarned allowed w.part w.of_part
  pub evasions : AreEvasions allowed lowered w.evasions.items
