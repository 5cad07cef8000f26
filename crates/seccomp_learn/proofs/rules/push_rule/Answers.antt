use Rattle.std.proofs.Common.{subst, sym}
use Rattle.seccomp_learn.specs.Parts.{MeetAlso}
use Rattle.seccomp_learn.proofs.Entries.{also_pushed}
use Rattle.seccomp_learn.proofs.rules.push_rule.Goals as goal

pub returns : goal.returns
returns c = subst (MeetAlso c.args.rule c.args.rules.now.items) (sym c.in_ok-push.ensures.items)
    (also_pushed c.args.rules.now.items c.args.rule)
