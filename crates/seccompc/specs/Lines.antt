-- What the program writes for the records of system calls: a line for each.
use Rattle.std.specs.Prelude.{◌≡◌, ℕ, List, ◌++◌, codes, decimal}
use Rattle.std.specs.List.{AllZip, concat}
use Rattle.seccomp_text.specs.Hexadecimal.{hexadecimal}
use Rattle.seccompiler.specs.declared.bpf.sock_filter.{sock_filter}
use Rattle.seccompiler.specs.Machine.{Ends}
use Rattle.seccompiler.specs.Policy.{Filter}
use Rattle.seccompiler.specs.Compiled.{IsCompiled}

-- The line of a returned word and a number of steps: the word in eight hexadecimal digits, a space, the steps in
-- decimal, a line feed.
abbrev pub line_of : ℕ → ℕ → List ℕ
line_of word steps = hexadecimal 8 word ++ codes " " ++ decimal steps ++ codes "\n"

-- The line of a program on a record: of the word that it returns, and the steps that it takes.
pub record IsLine (program : List sock_filter) (call line : List ℕ) : Type 0 where
  pub word : ℕ
  pub steps : ℕ
  pub ends : Ends program call steps word
  pub text : line ≡ line_of word steps

-- The text is the lines of a program on records, one for each, in order.
pub record AreLines (program : List sock_filter) (records : List (List ℕ)) (text : List ℕ) : Type 0 where
  pub lines : List (List ℕ)
  pub each : AllZip (IsLine program) records lines
  pub joined : text ≡ concat lines

-- The text is the lines of a filter on records: those of one program that is compiled for it.
pub record Traced (f : Filter) (records : List (List ℕ)) (text : List ℕ) : Type 0 where
  pub program : List sock_filter
  pub compiled : IsCompiled f program
  pub lines : AreLines program records text
