use Rattle.seccomp_warnings.proofs.call.is_so_of_unlisted.Goals as goal

pub returns-in-NoRestart-RestartSyscall : goal.returns-in-NoRestart-RestartSyscall
returns-in-NoRestart-RestartSyscall c =
    rw (c.in-NoRestart-RestartSyscall.is-0, c.in-NoRestart-RestartSyscall.is-1) c.is_unrestartable.ensures
