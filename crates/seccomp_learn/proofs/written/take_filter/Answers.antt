use Rattle.std.specs.BTreeMap.{get_by_text}
use Rattle.std.proofs.lemmas.Map.Text.{btree_map_updates_text}
use Rattle.seccomp_learn.proofs.Beside.{taken_out}
use Rattle.seccomp_learn.proofs.written.take_filter.Goals as goal

pub returns-clause-taken : goal.returns-clause-taken
returns-clause-taken c =
    let name = c.args.name.now in
    let old = c.args.filters.now.0 in
    let new = c.remove.new.self in
    taken_out (get_by_text old) (get_by_text new) name c.remove.result c.remove.ensures.value
    (btree_map_updates_text name old new _ c.remove.ensures.updates)
