use Rattle.std.proofs.Common.{◌≡◌, ℕ, ◌<◌, ◌≤◌, Some}
use Rattle.std.specs.Prelude.{slice_get}
use Rattle.seccomp_compare.specs.declared.values.Values.{Values}
use Rattle.seccomp_compare.proofs.sets.is_empty.Given as goal

-- the bounds of each word so far leave some
abbrev pub invariant-loop-values : goal.invariant-loop-values
invariant-loop-values l = (w : ℕ) → w < l.values-index → (s : Values) → slice_get l.part w ≡ Some s → s.least ≤ s.most
