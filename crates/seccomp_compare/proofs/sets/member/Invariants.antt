use Rattle.std.proofs.Common.{◌≡◌, ℕ, ◌*◌, ◌<◌, Some}
use Rattle.std.specs.Prelude.{slice_get, bit_or}
use Rattle.seccompiler.specs.Machine.{IsRecord, word_at}
use Rattle.seccomp_compare.specs.declared.values.Values.{Values}
use Rattle.seccomp_compare.proofs.sets.member.Given as goal

-- the words so far are the least ones, with the known bits
abbrev pub invariant-loop-word : goal.invariant-loop-word
invariant-loop-word l = record {
  record_is : IsRecord l.call;
  words : (w : ℕ) → w < l.word → (s : Values) → slice_get l.part w ≡ Some s → word_at l.call (4 * w) ≡ bit_or s.least s.value;
}
