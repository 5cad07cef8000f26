-- What is so of the calls that entries are for, of their arguments, and of the calls that none is for, that a part's author may not mean.
-- Which calls and arguments these are, the tables of the crate say.
use Rattle.std.specs.Prelude.{◌≡◌, ◌≢◌, ℕ, pos, ◌⊎◌, List, [], Any, IsSome, IsSomeAnd, Some, codes, map, slice_get, ⊤}
use Rattle.seccompiler.specs.declared.backend.SeccompCmpOp.{SeccompCmpOp}
use Rattle.seccompiler.specs.declared.backend.SeccompCmpOp.TheVariants.{Ge, Gt, Le, Lt}
use Rattle.seccompiler.specs.declared.backend.TargetArch.{TargetArch}
use Rattle.seccompiler.specs.Architecture.{table_of}
use Rattle.seccompiler.specs.SyscallTable.{number_of}
use Rattle.seccomp_entries.specs.Entries.{Entry}
use Rattle.seccomp_entries.specs.declared.verdict.Verdict.{Verdict}
use Rattle.seccomp_entries.specs.declared.verdict.Verdict.TheVariants as verdict
use Rattle.seccomp_warnings.specs.ActionWarnings.{Permits}
use Rattle.seccomp_warnings.specs.Parts.{Part}
use Rattle.seccomp_warnings.specs.declared.code.Code.{Code}
use Rattle.seccomp_warnings.specs.declared.code.Code.TheVariants as code
use Rattle.seccomp_warnings.specs.declared.unlisted.Unlisted.{Unlisted}
use Rattle.seccomp_warnings.specs.declared.unlisted.Unlisted.TheVariants as unlisted
use Rattle.seccomp_warnings.specs.declared.tables.TheConstants.{ADDRESSES, SIBLINGS, SIGNED}
use Rattle.seccomp_warnings.specs.declared.warning.Comparison.{Comparison}

-- ---- the entries of a part

-- The call of this name has this number on the architecture.
abbrev pub IsNumberOf : TargetArch → List ℕ → ℕ → Type 0
IsNumberOf arch name number = number_of (table_of arch) name ≡ Some (pos number)

-- The entry is for the call of this name.
abbrev pub Names : TargetArch → List ℕ → Entry → Type 0
Names arch name e = IsNumberOf arch name e.number

-- The entry asks nothing of the call's arguments.
abbrev pub HasNoArgs : Entry → Type 0
HasNoArgs e = e.conditions ≡ []

-- The entry matches every call of this name.
abbrev pub MatchesEach : TargetArch → List ℕ → Entry → Type 0
MatchesEach arch name e = Names arch name e × HasNoArgs e

-- Some entry is for the call.
abbrev pub NamesCall : Part → List ℕ → Type 0
NamesCall p name = Any (Names p.target_arch name) p.entries

-- Some entry matches every call of this name.
abbrev pub MatchesEachCall : Part → List ℕ → Type 0
MatchesEachCall p name = Any (MatchesEach p.target_arch name) p.entries

-- No entry is for the call, and what no entry matches is denied.
abbrev pub IsDeniedUnlisted : Part → List ℕ → Type 0
IsDeniedUnlisted p name = (Permits p.actions.mismatch → ⊥) × (NamesCall p name → ⊥)

-- Every call of this name is denied: an entry matches each, and what entries match is denied; or no entry is for it, and what no
-- entry matches is denied.
abbrev pub DeniesEach : List ℕ → Part → Type 0
DeniesEach name p = ((Permits p.actions.matching → ⊥) × MatchesEachCall p name) ⊎ IsDeniedUnlisted p name

-- ---- the calls that no entry is for

-- What is listed is allowed, among it set_tid_address, which a program calls once, as it starts, and the calls by which a program
-- is started are denied.
abbrev pub IsUnstartable : Part → Type 0
IsUnstartable p = Permits p.actions.matching × NamesCall p (codes "set_tid_address") × IsDeniedUnlisted p (codes "execve")
    × (NamesCall p (codes "execveat") → ⊥)

-- What is listed is allowed, among it a call that Linux goes on with by restart_syscall after the process was stopped and
-- continued (restart_syscall(2)), and that one is denied.
abbrev pub IsUnrestartable : Part → Type 0
IsUnrestartable p = Permits p.actions.matching × IsDeniedUnlisted p (codes "restart_syscall")
    × (NamesCall p (codes "nanosleep") ⊎ NamesCall p (codes "clock_nanosleep") ⊎ NamesCall p (codes "poll") ⊎ NamesCall p (codes "futex"))

-- Calls that an entry matches are denied, and an entry is for clone; the others are let through, and no entry is for clone3.
abbrev pub IsCloneEvaded : Part → Type 0
IsCloneEvaded p = Permits p.actions.mismatch × (Permits p.actions.matching → ⊥) × NamesCall p (codes "clone")
    × (NamesCall p (codes "clone3") → ⊥)

-- What a code says of a call that no entry is for is so.
abbrev pub IsSoOfUnlisted : Code → Part → Unlisted → Type 0
IsSoOfUnlisted code.KillsExit p unlisted.Exit = IsDeniedUnlisted p (codes "exit")
IsSoOfUnlisted code.KillsExit p unlisted.ExitGroup = IsDeniedUnlisted p (codes "exit_group")
IsSoOfUnlisted code.KillsExit p unlisted.RtSigreturn = IsDeniedUnlisted p (codes "rt_sigreturn")
IsSoOfUnlisted code.CloneByClone3 p unlisted.Clone3 = IsCloneEvaded p
IsSoOfUnlisted code.NoExecve p unlisted.Execve = IsUnstartable p
IsSoOfUnlisted code.NoRestart p unlisted.RestartSyscall = IsUnrestartable p
IsSoOfUnlisted other p call = ⊥

-- ---- what is so of an entry

-- By its call a thread or a process ends, or a signal handler returns (exit(2), exit_group(2), sigreturn(2)).
abbrev pub IsExit : TargetArch → Entry → Type 0
IsExit arch e = Names arch (codes "exit") e ⊎ Names arch (codes "exit_group") e ⊎ Names arch (codes "rt_sigreturn") e

-- What entries match is denied, and the entry matches each call of one of these names. By an errno a process ends by a signal too.
abbrev pub KillsAtExit : Part → Entry → Type 0
KillsAtExit p e = (Permits p.actions.matching → ⊥) × HasNoArgs e × IsExit p.target_arch e

-- Calls that an entry matches are let through, and this one matches each clone3; the others are denied, and no entry matches
-- each clone.
abbrev pub LetsClone3Through : Part → Entry → Type 0
LetsClone3Through p e = Permits p.actions.matching × (Permits p.actions.mismatch → ⊥) × MatchesEach p.target_arch (codes "clone3") e
    × (MatchesEachCall p (codes "clone") → ⊥)

-- The entry matches each of its calls, and another one asks for arguments of the same call.
abbrev pub IsWithAndWithoutArgs : Part → Entry → Type 0
IsWithAndWithoutArgs p e = HasNoArgs e × Any (λ other. (other.number ≡ e.number) × (HasNoArgs other → ⊥)) p.entries

-- Calls that an entry matches are denied, the others are let through, and this entry matches each of its calls.
abbrev pub IsDeniedAlone : Part → Entry → Type 0
IsDeniedAlone p e = (Permits p.actions.matching → ⊥) × Permits p.actions.mismatch × HasNoArgs e

-- The architecture has the call, and no entry is for it.
abbrev pub IsUnnamed : Part → (name : List ℕ) → Type 0
IsUnnamed p name = IsSome (number_of (table_of p.target_arch) name) × (NamesCall p name → ⊥)

-- The first of two calls is the entry's, and the second is unnamed.
abbrev pub IsOpen : Part → Entry → List ℕ × List ℕ → Type 0
IsOpen p e pair = Names p.target_arch pair.0 e × IsUnnamed p pair.1

-- The entry denies each of its calls, and another call by which the same can be done (docs/CHECKS.md says how) is let through, as no entry
-- is for it.
abbrev pub IsUndone : Part → Entry → Type 0
IsUndone p e = IsDeniedAlone p e × Any (IsOpen p e) (map (λ row. (row.0.now, row.1.now)) SIBLINGS)

-- What a code says of an entry of the part is so.
abbrev pub IsSoOfEntry : Code → Part → Entry → Type 0
IsSoOfEntry code.KillsExit p e = KillsAtExit p e
IsSoOfEntry code.CloneByClone3 p e = LetsClone3Through p e
IsSoOfEntry code.SiblingAllowed p e = IsUndone p e
IsSoOfEntry code.CrateDiffers p e = IsWithAndWithoutArgs p e
IsSoOfEntry other p e = ⊥

-- What a code says of an entry with this verdict is so.
abbrev pub IsOfVerdict : Code → Verdict → Type 0
IsOfVerdict code.UnreachableEntry v = v ≡ verdict.Unreachable
IsOfVerdict code.RedundantEntry v = v ≡ verdict.Redundant
IsOfVerdict code.UndecidedEntry v = v ≡ verdict.Undecided
IsOfVerdict other v = ⊥

-- There is a verdict at the place, by which what a code says is so.
abbrev pub IsJudged : Code → List Verdict → ℕ → Type 0
IsJudged kind verdicts place = IsSomeAnd (slice_get verdicts place) (IsOfVerdict kind)

-- ---- what is so of an argument

-- One of these rows, each of a call and of the index of an argument, is for the argument of this index of the call of this number.
abbrev pub HasRow : TargetArch → (number index : ℕ) → List (List ℕ × ℕ) → Type 0
HasRow arch number index rows = Any (λ (row : List ℕ × ℕ). IsNumberOf arch row.0 number × (row.1 ≡ index)) rows

-- The operator asks for the order of numbers.
abbrev pub IsOrder : SeccompCmpOp → Type 0
IsOrder Ge = ⊤
IsOrder Gt = ⊤
IsOrder Le = ⊤
IsOrder Lt = ⊤
IsOrder operator = ⊥

-- What a code says of a condition on an argument of the call of this number is so.
abbrev pub IsSoOfArgument : Code → TargetArch → (number : ℕ) → Comparison → Type 0
IsSoOfArgument code.PointerCompared arch number c =
    (c.value ≢ 0) × HasRow arch number c.arg_index (map (λ row. (row.0.now, row.1)) ADDRESSES)
IsSoOfArgument code.SignedCompared arch number c =
    IsOrder c.operator × HasRow arch number c.arg_index (map (λ row. (row.0.now, row.1)) SIGNED)
IsSoOfArgument other arch number c = ⊥
