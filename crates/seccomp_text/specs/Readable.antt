-- Texts from outside, as people read them: nothing in them steers a terminal.
use Rattle.std.specs.Prelude.{ℕ, ◌==◌, ◌||◌, ◌&&◌, not, Bool, if◌then◌else◌, List}
use Rattle.std.specs.Char.{is_control, encode_utf8}
use Rattle.std.specs.Int.{is_in_range}
use Rattle.std.specs.List.{flat_map}
use Rattle.std.specs.Str.{chars}
use Rattle.seccomp_text.specs.Names.{byte_number}
use Rattle.seccomp_text.specs.declared.readable.TextKind.{TextKind}
use Rattle.seccomp_text.specs.declared.readable.TextKind.TheVariants.{Name, Line, Lines}

-- The characters that turn the direction of writing, or aren't seen.
abbrev pub is_invisible : ℕ → Bool
is_invisible c = (c == 0xAD) || (c == 0x61C) || (c == 0x180E) || is_in_range 0x200B 0x200F c || is_in_range 0x2028 0x202E c
    || is_in_range 0x2060 0x206F c || (c == 0xFEFF) || is_in_range 0xFFF9 0xFFFB c || is_in_range 0xE0000 0xE007F c

-- The characters that steer a terminal or aren't seen there: these, and the control characters, which are U+0000 to U+001F
-- and U+007F to U+009F.
abbrev pub is_steering : ℕ → Bool
is_steering c = is_control c || is_invisible c

-- The characters that are written by the numbers of their bytes: these; in names the backslash too; and in lines all but the
-- line feed.
abbrev pub is_numbered : TextKind → ℕ → Bool
is_numbered Name c = is_steering c || (c == 92)
is_numbered Line c = is_steering c
is_numbered Lines c = is_steering c && not (c == 10)

-- A character, as people read it: its bytes, or each byte by its number, which is `\x` and two hexadecimal digits.
abbrev pub readable_character : TextKind → ℕ → List ℕ
readable_character kind c = if is_numbered kind c then flat_map byte_number (encode_utf8 c) else encode_utf8 c

-- A text as people read it, character by character.
abbrev pub readable : TextKind → List ℕ → List ℕ
readable kind text = flat_map (readable_character kind) (chars text)
