use Rattle.std.proofs.Common.{◌≡◌, ◌++◌, length, take}
use Rattle.seccomp_text.specs.Listing.{header_of, instruction_lines}
use Rattle.seccomp_text.proofs.listing.push_listing.Given as goal

abbrev pub invariant-loop-instruction : goal.invariant-loop-instruction
invariant-loop-instruction l = l.text.items
    ≡ (l.fn.text.items ++ header_of (length l.program) l.name) ++ instruction_lines (take l.instruction-index l.program)
