use Rattle.std.proofs.Common.{◌≢◌, All, take}
use Rattle.seccomp_entries.specs.Entries.{Entry}
use Rattle.seccomp_warnings.proofs.profile.doubts.settler_of.Given as goal

-- none so far is for the number
abbrev pub invariant-loop-entry : goal.invariant-loop-entry
invariant-loop-entry l = All (λ (e : Entry). e.number ≢ l.number) (take l.entry-index l.entries)
