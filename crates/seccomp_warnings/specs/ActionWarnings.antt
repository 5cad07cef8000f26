-- What is so of an action that its author may not mean.
use Rattle.std.specs.Prelude.{◌≡◌, ℕ, ◌<◌, ◌⊎◌}
use Rattle.seccomp_entries.specs.declared.entry.Action.{Action}
use Rattle.seccomp_entries.specs.declared.entry.Action.TheVariants.{Notify, Own}
use Rattle.seccompiler.specs.declared.backend.SeccompAction.TheVariants.{Allow, Errno, Log, Trace}
use Rattle.seccomp_entries.specs.Entries.{value_of}
use Rattle.seccomp_warnings.specs.declared.code.Code.{Code}
use Rattle.seccomp_warnings.specs.declared.code.Code.TheVariants as code
use Rattle.seccomp_warnings.specs.declared.warning.Actions.{Actions}

-- The action lets a call through (seccomp(2): SECCOMP_RET_ALLOW and SECCOMP_RET_LOG).
abbrev pub Permits : Action → Type 0
Permits action = (action ≡ Own Allow) ⊎ (action ≡ Own Log)

-- The errno is above the greatest that Linux has (MAX_ERRNO of the kernel).
abbrev pub IsErrnoTooLarge : Action → Type 0
IsErrnoTooLarge (Own (Errno n)) = 4095 < n
IsErrnoTooLarge action = ⊥

-- The action notifies a tracer.
abbrev pub Traces : Action → Type 0
Traces action = (n : ℕ) × (action ≡ Own (Trace n))

-- The action denies a call, whoever is there: it leaves none to a tracer or a supervisor.
abbrev pub Denies : Action → Type 0
Denies action = (Permits action → ⊥) × (Traces action → ⊥) × (action ≡ Notify → ⊥)

-- What a code says of an action is so. Of FakeSuccess and EndlessRetry: its return value is SECCOMP_RET_ERRNO with errno 0, or 4.
abbrev pub IsSoOfAction : Code → Action → Type 0
IsSoOfAction code.FakeSuccess action = value_of action ≡ 0x00050000
IsSoOfAction code.ErrnoTooLarge action = IsErrnoTooLarge action
IsSoOfAction code.EndlessRetry action = value_of action ≡ 0x00050004
IsSoOfAction code.TraceWithoutTracer action = Traces action
IsSoOfAction other action = ⊥

-- What a code says of both actions together is so.
abbrev pub IsSoOfBoth : Code → Actions → Type 0
IsSoOfBoth code.DeniesEverything actions = Denies actions.mismatch × Denies actions.matching
IsSoOfBoth other actions = ⊥

-- What a code says of the action for calls that no entry matches is so, and of no other.
abbrev pub IsSoOfDefault : Code → Action → Type 0
IsSoOfDefault code.AllowsByDefault action = Permits action
IsSoOfDefault other action = ⊥
