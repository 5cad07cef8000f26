-- The listing of a program: its length and its name, and each instruction.
use Rattle.std.specs.Prelude.{ℕ, List, ◌++◌, length, codes, decimal}
use Rattle.std.specs.List.{flat_map}
use Rattle.seccompiler.specs.declared.bpf.sock_filter.{sock_filter}
use Rattle.seccomp_text.specs.Hexadecimal.{hexadecimal}
use Rattle.seccomp_text.specs.Names.{escaped}

-- The line in front of a program: its length and its name.
abbrev pub header_of : ℕ → List ℕ → List ℕ
header_of count name = codes "filter " ++ decimal count ++ codes " " ++ escaped name ++ codes "\n"

-- The line of an instruction: its four numbers in hexadecimal digits.
abbrev pub instruction_line : sock_filter → List ℕ
instruction_line i = hexadecimal 4 i.code ++ codes " " ++ hexadecimal 2 i.jt ++ codes " " ++ hexadecimal 2 i.jf ++ codes " "
    ++ hexadecimal 8 i.k ++ codes "\n"

-- The lines of a program's instructions, in order.
abbrev pub instruction_lines : List sock_filter → List ℕ
instruction_lines program = flat_map instruction_line program

-- A program with its name, which is given by its bytes.
abbrev pub NamedProgram : Type 0
NamedProgram = List ℕ × List sock_filter

-- The listing of one.
abbrev pub listing_of : NamedProgram → List ℕ
listing_of p = header_of (length p.1) p.0 ++ instruction_lines p.1
