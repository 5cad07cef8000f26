use Rattle.std.proofs.Common.{◌<◌, subst, sym, ap, ◌∙◌}
use Rattle.std.specs.Prelude.{IfSome}
use Rattle.std.specs.Map.{lookup}
use Rattle.std.specs.Str.{bytes_eq}
use Rattle.seccomp_names.specs.CallTables.{end_of}
use Rattle.seccomp_names.proofs.call_table.Looked.{below_end}
use Rattle.seccomp_names.proofs.call_table.CallTable.number_of.Goals as goal

pub returns-clause-below : goal.returns-clause-below
returns-clause-below c = subst (λ number. IfSome number (λ n. n < end_of c.args.self))
    (sym (c.number_in.ensures ∙ ap (lookup (bytes_eq c.args.name.now)) c.names_and_numbers.ensures)) (below_end c.args.self c.args.name.now)
