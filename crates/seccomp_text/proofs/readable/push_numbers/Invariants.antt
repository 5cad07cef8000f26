use Rattle.std.proofs.Common.{◌≡◌, ◌++◌, take}
use Rattle.std.specs.List.{flat_map}
use Rattle.seccomp_text.specs.Names.{byte_number}
use Rattle.seccomp_text.proofs.readable.push_numbers.Given as goal

abbrev pub invariant-loop-byte : goal.invariant-loop-byte
invariant-loop-byte l = l.text.items ≡ l.fn.text.items ++ flat_map byte_number (take l.byte-index l.bytes)
