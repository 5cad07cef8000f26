use Rattle.std.proofs.Common.{ap, ◌∙◌}
use Rattle.seccompiler.specs.Architecture.{table_of}
use Rattle.seccompiler.specs.SyscallTable.{number_of}
use Rattle.seccomp_learn.proofs.Entries.{entry_as_named, either_same, through}
use Rattle.seccomp_learn.proofs.rules.push_call.Goals as goal

pub returns : goal.returns
returns c = λ r.
    through (c.in_ok-push_rule.ensures.also c.args.arch r)
    (either_same (entry_as_named c.args.arch c.args.kept.now c.args.observation.now _ r
    (ap (number_of (table_of c.args.arch)) c.in_ok-syscall.ensures.ok ∙ c.in-Some.ensures.name) (c.in_ok-conditions.ensures r)))
