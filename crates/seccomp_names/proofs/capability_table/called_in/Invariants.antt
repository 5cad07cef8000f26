use Rattle.std.proofs.Common.{All, Bor, List, take, ℕ}
use Rattle.seccomp_names.specs.Capabilities.{IsCalled}
use Rattle.seccomp_names.proofs.capability_table.called_in.Given as goal

abbrev pub invariant-loop-own : goal.invariant-loop-own
invariant-loop-own l = All (λ (own : Bor (List ℕ)). IsCalled own.now l.name → ⊥) (take l.own-index l.names)
