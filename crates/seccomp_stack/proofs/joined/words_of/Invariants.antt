use Rattle.std.proofs.Common.{◌≡◌, [], drop}
use Rattle.seccomp_stack.specs.Joined.{words_from}
use Rattle.seccomp_stack.proofs.joined.words_of.Given as goal

-- with those of what is left, the words are all
abbrev pub invariant-loop-instruction : goal.invariant-loop-instruction
invariant-loop-instruction l =
    words_from l.words.items (drop l.instruction-index l.program) ≡ words_from [] l.program
