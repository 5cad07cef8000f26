use Rattle.std.proofs.Common.{subst}
use Rattle.seccompiler.specs.JsonPrograms.{TellsFirstFault}
use Rattle.seccomp_faults.specs.Checks.{IsRejectionOf}
use Rattle.seccomp_answers.proofs.Causes.{told_front}
use Rattle.seccomp_answers.proofs.policy.unread.Goals as goal

pub returns : goal.returns
returns c = λ is first reader memory.
    let target = c.args.target in
    let text = c.args.text.now in
    let r = c.rejection_in-rejection.result in
    told_front target text c.args.refusal r c.rejected.result first reader memory
    (subst (λ e. TellsFirstFault target text e → IsRejectionOf target text e r) c.into.ensures (c.rejection_in-rejection.ensures text is))
    c.rejected.ensures
