use Rattle.std.proofs.Common.{◌≡◌, ◌++◌, drop, map}
use Rattle.seccomp_stack.specs.Joined.{in_copy, copy}
use Rattle.seccomp_stack.proofs.joined.push_copy.Given as goal

-- with what is left, it is all that was there and the copy
abbrev pub invariant-loop-instruction : goal.invariant-loop-instruction
invariant-loop-instruction l =
    l.program.items ++ map (in_copy l.word) (drop l.instruction-index l.newer) ≡ l.fn.program.items ++ copy l.newer l.word
