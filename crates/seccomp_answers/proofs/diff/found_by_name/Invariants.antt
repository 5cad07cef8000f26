use Rattle.std.proofs.Common.{All}
use Rattle.std.specs.BTreeMap.{get_by_text}
use Rattle.seccomp_answers.proofs.diff.Names.{AreSoFar, IsAmong}
use Rattle.seccomp_answers.proofs.diff.found_by_name.Given as goal

-- the old policy's filters so far
abbrev pub invariant-loop-name : goal.invariant-loop-name
invariant-loop-name g l =
    AreSoFar l.fn.terms.target l.fn.terms.relation (get_by_text l.fn.old) (get_by_text l.fn.new) l.all.items l.fn.old.entries
    l.name-iterator

-- all of them, and the new one's so far
abbrev pub invariant-loop-name-2 : goal.invariant-loop-name-2
invariant-loop-name-2 g l = record {
  old : All (IsAmong l.all.items) l.fn.old.entries;
  so_far : AreSoFar l.fn.terms.target l.fn.terms.relation (get_by_text l.fn.old) (get_by_text l.fn.new) l.all.items l.fn.new.entries
      l.name-iterator;
}
