-- The programs of a policy's filters, and the bytes of a program.
use Rattle.std.specs.Prelude.{◌≡◌, ℕ, List, [], ◌∷◌, ◌++◌, String, string_bytes}
use Rattle.std.specs.declared.alloc.Global.{Global}
use Rattle.std.specs.Int.{w16, w32, to_le_bytes}
use Rattle.std.specs.List.{flat_map}
use Rattle.serde_json.specs.Data.{Data}
use Rattle.seccompiler.specs.declared.backend.TargetArch.{TargetArch}
use Rattle.seccompiler.specs.declared.bpf.sock_filter.{sock_filter}
use Rattle.seccomp_tree.specs.declared.layout.Layout.{Layout}
use Rattle.seccomp_tree.specs.Layouts.{IsCompiledIn}
use Rattle.seccompiler.specs.JsonAnswers.{HasPolicy}
use Rattle.seccompiler.specs.Policy.{Filter}
use Rattle.seccomp_answers.specs.declared.programs.NamedProgram.{NamedProgram}
use Rattle.seccompiler.specs.JsonFilters.{AreNamed}

-- The 8 bytes of an instruction: those of a `struct sock_filter` (linux/filter.h), each number with its low byte first.
abbrev pub instruction_bytes : sock_filter → List ℕ
instruction_bytes i = to_le_bytes w16 i.code ++ (i.jt ∷ i.jf ∷ []) ++ to_le_bytes w32 i.k

-- The bytes of a program: those of its instructions, in order.
abbrev pub program_bytes : List sock_filter → List ℕ
program_bytes program = flat_map instruction_bytes program

-- The value's policy on this architecture is one that the program is compiled for.
pub record HasProgram (layout : Layout) (target : TargetArch) (value : Data) (program : List sock_filter) : Type 0 where
  pub policy : Filter
  pub is_policy : HasPolicy target value policy
  pub compiled : IsCompiledIn layout policy program

-- The name of a filter's program.
abbrev pub name_of : NamedProgram → List ℕ
name_of made = string_bytes made.name

-- Each program is compiled for the filter under its name, and each filter of the policy's value has one.
abbrev pub ArePrograms : Layout → TargetArch → Data → List NamedProgram → Type 0
ArePrograms layout target = AreNamed name_of (λ made value. HasProgram layout target value made.program.items)

-- Between layers: the program has the filter's name, and is compiled for it in the layout.
pub record IsCompiledAs (layout : Layout) (named : String Global × Filter) (made : NamedProgram) : Type 0 where
  pub name : name_of made ≡ string_bytes named.0
  pub compiled : IsCompiledIn layout named.1 made.program.items
