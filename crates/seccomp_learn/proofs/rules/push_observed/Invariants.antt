use Rattle.std.proofs.Common.{◌↔◌, ◌⊎◌, ℕ, List, take}
use Rattle.std.specs.Prelude.{Any}
use Rattle.seccomp_learn.specs.Observed.{IsAsNamed}
use Rattle.seccomp_learn.specs.Parts.{MeetsSome}
use Rattle.seccomp_learn.proofs.rules.push_observed.Given as goal

abbrev pub invariant-loop-observation : goal.invariant-loop-observation
invariant-loop-observation l = (r : List ℕ) → MeetsSome l.arch r l.rules.items
    ↔ (MeetsSome l.arch r l.initial.rules.items ⊎ Any (IsAsNamed l.arch l.kept r) (take l.observation-index l.observed))
