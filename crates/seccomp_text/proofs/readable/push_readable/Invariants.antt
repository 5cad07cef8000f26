use Rattle.std.proofs.Common.{◌≡◌, ◌++◌}
use Rattle.std.specs.Str.{IsUtf8}
use Rattle.std.specs.Str.Iter.{chars_rest}
use Rattle.seccomp_text.specs.Readable.{readable}
use Rattle.seccomp_text.proofs.readable.push_readable.Given as goal

-- What is written and what is still to come are what is given.
abbrev pub invariant-loop-character : goal.invariant-loop-character
invariant-loop-character l = IsUtf8 (chars_rest l.character-iterator)
    × (l.text.items ++ readable l.fn.kind (chars_rest l.character-iterator) ≡ l.fn.text.items ++ readable l.fn.kind l.fn.given)
