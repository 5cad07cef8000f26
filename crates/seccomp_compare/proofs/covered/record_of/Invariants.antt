use Rattle.std.proofs.Common.{◌≡◌, ℕ, ◌<◌, Some}
use Rattle.std.specs.Prelude.{slice_get}
use Rattle.seccompiler.specs.Architecture.{audit_word}
use Rattle.seccompiler.specs.Machine.{IsRecord, argument_at, word_at}
use Rattle.seccomp_compare.specs.declared.known.Known.{Known}
use Rattle.seccomp_compare.proofs.covered.record_of.Given as goal

-- the arguments so far are the values
abbrev pub invariant-loop-index : goal.invariant-loop-index
invariant-loop-index l = record {
  is : IsRecord l.call;
  arch : word_at l.call 4 ≡ audit_word l.fn.arch;
  number : word_at l.call 0 ≡ l.fn.number;
  known : (i : ℕ) → i < l.index → (k : Known) → slice_get l.part i ≡ Some k → argument_at l.call i ≡ k.value;
}
