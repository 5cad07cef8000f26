use Rattle.serde_json.specs.View.{view}
use Rattle.seccomp_profiles.proofs.actions.Numbers.{none_under}
use Rattle.seccomp_profiles.proofs.actions.action_under.Goals as goal
use Rattle.std.proofs.Common.{sym, Some, None, Option}
use Rattle.std.specs.Prelude.{IfNone}

when_none : {A : Type 0} {P Q : Type 0} (o : Option A) → (P → Q) → IfNone o P → IfNone o Q
when_none None more none = more none
when_none (Some x) more none = tt

pub returns-in_err-beside-clause-none : goal.returns-in_err-beside-clause-none
returns-in_err-beside-clause-none c = rw c.from_residual.ensures (λ a is. c.in_err-beside.ensures.none is.beside is.is_beside)

pub returns-clause-none : goal.returns-clause-none
returns-clause-none c = when_none c.read_action.result
    (none_under (view c.args.value.now) c.args.action.now c.args.number.now c.args.name.now c.in_ok-beside.beside
    (view c.in_ok-get.field-0.now)
    c.in_ok-beside.ensures.found (sym c.in_ok-get.ensures)) c.read_action.ensures.none
