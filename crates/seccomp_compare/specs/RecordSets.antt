-- Sets of call records, and runs on all records of a set.
use Rattle.std.specs.Prelude.{◌≡◌, ℕ, ◌+◌, ◌*◌, ◌<◌, ◌≤◌, List, length, Some, slice_get, bit_and}
use Rattle.seccompiler.specs.declared.bpf.sock_filter.{sock_filter}
use Rattle.seccompiler.specs.Machine.{IsRecord, word_at}
use Rattle.seccomp_compare.specs.Machine.{EndsFrom, Ends}
use Rattle.seccomp_compare.specs.declared.values.Values.{Values}
use Rattle.seccomp_compare.specs.declared.follow.At.{At}
use Rattle.seccomp_compare.specs.WordSets.{HasValue, IsTight}

-- The record lies in the set: each of its 16 words is one of those that the set has there.
pub record IsIn (part : List Values) (r : List ℕ) : Type 0 where
  pub each : (w : ℕ) (s : Values) → slice_get part w ≡ Some s → HasValue s (word_at r (4 * w))

-- What the accumulator has on this record.
abbrev pub accumulator : List ℕ → At → ℕ
accumulator r at = bit_and (word_at r (4 * at.word)) at.mask

-- The program's run on this record comes here: as it ends from here on, it ends.
pub record Reaches (p : List sock_filter) (r : List ℕ) (at : At) : Type 0 where
  pub steps : ℕ
  pub ends : (n w : ℕ) → EndsFrom p r at.place (accumulator r at) n w → Ends p r (steps + n) w

-- All records of the set come here.
pub record Stands (p : List sock_filter) (part : List Values) (at : At) : Type 0 where
  pub within : at.place < length p
  pub word : at.word < 16
  pub reached : (r : List ℕ) → IsRecord r → IsIn part r → Reaches p r at

-- The least bound of each word is one of its words, if the bounds leave any.
pub record AreTight (part : List Values) : Type 0 where
  pub each : (w : ℕ) (s : Values) → slice_get part w ≡ Some s → IsTight s

-- The bounds of each word leave some.
pub record LeavesSome (part : List Values) : Type 0 where
  pub each : (w : ℕ) (s : Values) → slice_get part w ≡ Some s → s.least ≤ s.most
