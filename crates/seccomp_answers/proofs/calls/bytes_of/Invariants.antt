use Rattle.std.proofs.Common.{◌≡◌, ◌++◌, take, w32, w64}
use Rattle.std.specs.Int.{to_le_bytes}
use Rattle.std.specs.List.{flat_map}
use Rattle.seccomp_answers.proofs.calls.bytes_of.Given as goal

-- what stands in front of the arguments, and those so far
abbrev pub invariant-loop-argument : goal.invariant-loop-argument
invariant-loop-argument l =
    l.bytes.items ≡ (to_le_bytes w32 l.number ++ to_le_bytes w32 (l.fn.arch) ++ to_le_bytes w64 0)
    ++ flat_map (to_le_bytes w64) (take l.argument-index l.arguments)
