use Rattle.std.proofs.Common.{◌≡◌, drop, length}
use Rattle.std.specs.List.{zip}
use Rattle.std.specs.Map.{lookup}
use Rattle.std.specs.Str.{bytes_eq}
use Rattle.seccomp_names.specs.CallTables.{words}
use Rattle.seccomp_names.proofs.call_table.number_in.Given as goal

abbrev pub invariant-loop-own : goal.invariant-loop-own
invariant-loop-own l = lookup (bytes_eq l.name) (drop (length l.yielded) (zip (words l.names) l.numbers))
    ≡ lookup (bytes_eq l.name) (zip (words l.names) l.numbers)
