use Rattle.std.proofs.Common.{◌≡◌, ◌≤◌, ◌++◌, length, List}
use Rattle.std.specs.Map.{keys_of}
use Rattle.std.proofs.Common.{String, Global}
use Rattle.seccompiler_c.proofs.names.write_key.Given as goal

-- as many keys as the place says are before those that are left, and it isn't after the index
abbrev pub invariant-loop-key : goal.invariant-loop-key
invariant-loop-key l = record {
  done : List (String Global);
  whole : keys_of l.fn.filters.0.entries ≡ done ++ l.key-iterator;
  count : length done ≡ l.place;
  before : l.place ≤ l.fn.index;
  left : l.name ≡ l.fn.name;
}
