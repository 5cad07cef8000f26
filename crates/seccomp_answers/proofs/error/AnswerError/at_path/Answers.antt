use Rattle.std.proofs.Common.{inr, refl}
use Rattle.seccomp_answers.proofs.error.AnswerError.at_path.Goals as goal

pub returns-in-Ok-told : goal.returns-in-Ok-told
returns-in-Ok-told c = inr (c.in_default.not-OutOfMemory, c.in-Ok-told.told, refl)
