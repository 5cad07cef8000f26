use Rattle.std.proofs.Common.{◌≡◌, ◌++◌, List, String, Global}
use Rattle.std.specs.List.{AllZip}
use Rattle.seccompiler.specs.JsonTypes.{JsonFilter}
use Rattle.seccomp_answers.specs.Check.{AreWarningsOf, count_of}
use Rattle.seccomp_answers.proofs.check.warnings_in.Given as goal

-- each of the filters so far has its warnings, and they are counted
abbrev pub invariant-loop-name : goal.invariant-loop-name
invariant-loop-name l = record {
  done : List (String Global × JsonFilter);
  whole : l.fn.filters.0.entries ≡ done ++ l.name-iterator;
  each : AllZip (AreWarningsOf l.target l.allowed l.beside) done l.all.items;
  count_is : l.count ≡ count_of l.all.items;
}
