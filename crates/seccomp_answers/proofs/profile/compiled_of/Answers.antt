use Rattle.seccomp_answers.proofs.profile.compiled_of.Goals as goal

pub returns-in-Err-Profile-clause-refused : goal.returns-in-Err-Profile-clause-refused
returns-in-Err-Profile-clause-refused c =
    let fault = rw c.in-Err-Profile.field-0-is at c.in-Err-Profile.ensures.fault in
    c.unread.ensures c.args.target c.args.container.now c.args.strict fault.1
