use Rattle.seccomp_tree.proofs.Decided.{seen_grown, seen_more}
use Rattle.seccomp_tree.proofs.decisions.Decisions.answer.Goals as goal

pub returns-in-Give-clause-seen : goal.returns-in-Give-clause-seen
returns-in-Give-clause-seen c = seen_grown c.args.self.now c.args.seen.now.items c.in_ok-target.ensures.grows c.requires.seen

pub returns-in-Ok-clause-seen : goal.returns-in-Ok-clause-seen
returns-in-Ok-clause-seen c =
    rw c.in-Ok.ensures.items (seen_more c.args.self.now c.args.seen.now.items c.args.number c.in_ok-target.ensures.grows c.requires.seen
    (rw (c.default_for.ensures, c.rulings_for.ensures) at c.in_ok-target.ensures.answer))
