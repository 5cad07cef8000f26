use Rattle.std.proofs.Common.{◌≡◌, ◌++◌, take}
use Rattle.seccomp_text.specs.Names.{escaped}
use Rattle.seccomp_text.proofs.names.push_escaped.Given as goal

abbrev pub invariant-loop-byte : goal.invariant-loop-byte
invariant-loop-byte l = l.text.items ≡ l.fn.text.items ++ escaped (take l.byte-index l.name)
