use Rattle.seccomp_answers.proofs.calls.Calls.{no_call, numbered_call, numbered_none}
use Rattle.seccomp_answers.proofs.calls.number_in.Goals as goal

pub returns-in-Some-clause-called : goal.returns-in-Some-clause-called
returns-in-Some-clause-called c =
    rw c.ok.ensures.value
    (numbered_call c.args.abi c.args.call.now c.in-Some.number c.in-Some.ensures.read c.try_from.result c.try_from.ensures)

pub returns-in-Some-clause-uncalled : goal.returns-in-Some-clause-uncalled
returns-in-Some-clause-uncalled c =
    rw c.ok.ensures.value
    (numbered_none c.args.abi c.args.call.now c.in-Some.number c.in-Some.ensures.read c.try_from.result c.try_from.ensures)

pub returns-in-None-clause-uncalled : goal.returns-in-None-clause-uncalled
returns-in-None-clause-uncalled c =
    no_call c.args.abi c.args.call.now c.in-None.ensures.unread c.call_number.result c.call_number.ensures.none
