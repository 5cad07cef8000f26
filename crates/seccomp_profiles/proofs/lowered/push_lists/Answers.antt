use Rattle.std.proofs.Common.{◌≡◌, ◌++◌, ◌∷◌, [], length, nat_lt}
use Rattle.std.proofs.Common.{rules}
use Rattle.seccomp_profiles.specs.Concerns.{entry_for}
use Rattle.seccomp_profiles.proofs.lowered.Lists.{next_list}
use Rattle.seccomp_profiles.proofs.lowered.push_lists.Goals as goal

pub loop-index-preserved : goal.loop-index-preserved
loop-index-preserved c =
    let lists = c.args.lists.now in
    let l = c.loop-index in
    let alone = nat_lt 1 (length lists) in
    let items : c.in_ok-conditions.conditions.items ≡ c.index-lists-index.result.items =
    search rules in
    let own : c.push.new.self.items ≡ l.all.items ++ entry_for c.args.place c.args.action c.args.number alone l.index
    c.index-lists-index.result.items ∷ [] = cc (items, c.then_some.ensures, c.in_ok-push.ensures.items) in
    next_list c.args.place c.args.action c.args.number alone c.args.all.now.items l.all.items c.push.new.self.items lists l.index
    c.index-lists-index.result c.loop-index-test.true c.index-lists-index.is l.invariant own
