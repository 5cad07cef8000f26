use Rattle.std.proofs.Common.{◌≡◌, ◌≢◌, ℕ, Some}
use Rattle.std.specs.Prelude.{All, slice_get, take}
use Rattle.seccomp_entries.specs.Entries.{Entry, Meets}
use Rattle.seccomp_entries.proofs.drawers.first_in.Given as goal

abbrev pub invariant-loop-at : goal.invariant-loop-at
invariant-loop-at l =
    All (λ (k : ℕ). (e : Entry) → k ≢ l.place → slice_get l.entries k ≡ Some e → Meets l.call e → ⊥) (take l.at-index l.at-items)
