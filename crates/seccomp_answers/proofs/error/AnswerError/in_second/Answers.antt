use Rattle.std.proofs.Common.{inr, refl}
use Rattle.seccomp_answers.proofs.error.AnswerError.in_second.Goals as goal

pub returns-in-Ok : goal.returns-in-Ok
returns-in-Ok c = inr (c.in_default.not-OutOfMemory, c.in-Ok.told, refl)
