use Rattle.std.proofs.Common.{◌≡◌, ◌+◌, drop}
use Rattle.seccomp_stack.specs.Joined.{place_of}
use Rattle.seccomp_stack.proofs.joined.place_of.Given as goal

-- the word is none of those so far
abbrev pub invariant-loop-place : goal.invariant-loop-place
invariant-loop-place l = l.place + place_of (drop l.place l.words) l.word ≡ place_of l.words l.word
