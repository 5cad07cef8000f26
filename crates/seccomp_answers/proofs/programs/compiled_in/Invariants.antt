use Rattle.std.proofs.Common.{◌≡◌, ◌++◌}
use Rattle.std.specs.List.{AllZip}
use Rattle.seccomp_answers.proofs.diff.Names.{Entries}
use Rattle.seccomp_answers.specs.Compiled.{IsCompiledAs}
use Rattle.seccomp_answers.proofs.programs.compiled_in.Given as goal

-- the filters so far have their programs
abbrev pub invariant-loop-name : goal.invariant-loop-name
invariant-loop-name l = record {
  done : Entries;
  whole : l.fn.filters.entries ≡ done ++ l.name-iterator;
  compiled : AllZip (IsCompiledAs l.layout) done l.programs.items;
}
