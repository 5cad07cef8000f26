use Rattle.std.specs.List.{AllZip}
use Rattle.seccomp_entries.specs.declared.entry.Action.{Action}
use Rattle.seccomp_profiles.specs.declared.types.Abi.{Abi}
use Rattle.std.proofs.Common.{List}
use Rattle.seccomp_profiles.specs.Concerns.{AreAskedTo, AreLoweredTo, IsConcernOf}
use Rattle.seccomp_profiles.specs.Types.{Container, Entry}
use Rattle.seccomp_profiles.proofs.lowered.push_rank.Given as goal

-- those of the ranks below and of the entries so far
abbrev pub invariant-loop-place : goal.invariant-loop-place
invariant-loop-place l = AreLoweredTo l.concerns l.rank l.initial.all.items → (abi : Abi) (container : Container)
    (default : Action) (own : List Entry) → AllZip (IsConcernOf abi container default) own l.concerns
    → AreAskedTo abi container default own l.rank l.place l.all.items
