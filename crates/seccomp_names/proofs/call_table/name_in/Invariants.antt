use Rattle.std.proofs.Common.{◌≡◌, ℕ, List, All, take, length}
use Rattle.std.specs.List.{zip}
use Rattle.seccomp_names.specs.CallTables.{words}
use Rattle.seccomp_names.proofs.call_table.name_in.Given as goal

abbrev pub invariant-loop-name : goal.invariant-loop-name
invariant-loop-name l = All (λ (pair : List ℕ × ℕ). pair.1 ≡ l.number → ⊥) (take (length l.yielded) (zip (words l.names) l.numbers))
