use Rattle.std.proofs.Common.{◌≡◌, ◌++◌, drop}
use Rattle.seccomp_stack.specs.Joined.{front}
use Rattle.seccomp_stack.proofs.joined.front_of.Given as goal

-- with what is left, it is the front
abbrev pub invariant-loop-place : goal.invariant-loop-place
invariant-loop-place l =
    l.program.items ++ front l.words l.size (drop l.place l.older) ≡ front l.words l.size l.older
