use Rattle.std.proofs.Common.{◌≡◌, ◌≢◌, ◌<◌, ◌+◌, ◌*◌, ℕ, Some}
use Rattle.std.specs.Prelude.{slice_get}
use Rattle.seccompiler.specs.Machine.{word_at}
use Rattle.seccomp_entries.specs.Drawers.{IsIn}
use Rattle.seccomp_entries.specs.Entries.{Entry, Meets}
use Rattle.seccomp_entries.proofs.drawers.first_beside.Given as goal

-- none that stands in the drawer of an argument below this one
abbrev pub invariant-loop-index : goal.invariant-loop-index
invariant-loop-index l = (i k : ℕ) (e : Entry) → i < l.index → IsIn l.files (i, word_at l.call (16 + 8 * i)) k → k ≢ l.place
    → slice_get l.entries k ≡ Some e → Meets l.call e → ⊥
