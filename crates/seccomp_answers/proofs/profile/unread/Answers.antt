use Rattle.seccomp_answers.proofs.profile.unread.Goals as goal

pub returns-in-NotAProfile : goal.returns-in-NotAProfile
returns-in-NotAProfile c = λ target container strict fault. c.faulty.ensures target container strict (rw c.in-NotAProfile.is at fault)

pub returns-in_default : goal.returns-in_default
returns-in_default c = λ target container strict fault. (λ same. cc, (c.in_default.not-OutOfMemory, fault))
