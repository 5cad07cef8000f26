use Rattle.std.proofs.Common.{◌≡◌, ◌+◌, ◌++◌, length, take}
use Rattle.std.specs.List.{flat_map}
use Rattle.seccomp_stack.specs.Joined.{words_in, front, copy}
use Rattle.seccomp_stack.proofs.joined.join.Given as goal

-- behind the front are the copies for the words so far
abbrev pub invariant-loop-word : goal.invariant-loop-word
invariant-loop-word l =
    l.program.items
    ≡ front (words_in l.older) (length l.newer + 1) l.older ++ flat_map (copy l.newer) (take l.word-index (words_in l.older))
