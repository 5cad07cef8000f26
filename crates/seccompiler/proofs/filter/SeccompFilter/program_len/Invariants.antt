use Rattle.std.proofs.Common.{◌≡◌, ◌+◌, ◌-◌, ◌^◌, min}
use Rattle.seccompiler.proofs.CappedLengths.{lent_length}
use Rattle.seccompiler.proofs.filter.SeccompFilter.program_len.Given as goal

-- the length of the program's front and end and of the chains so far, or the greatest number if that is less
abbrev pub invariant-loop-chain : goal.invariant-loop-chain
invariant-loop-chain l = l.length ≡ min (5 + lent_length l.yielded) (2 ^ 64 - 1)
