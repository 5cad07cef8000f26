use Rattle.seccomptool.proofs.Common.{Any, AskedArguments, IsUncalled, List, err_from_is_err_and, inr, subst}
use Rattle.seccomptool.specs.Learn.{AreWithCall, InTurn}
use Rattle.seccomptool.proofs.learn.arguments.wanted_in.Goals as goal

pub returns-clause-wanted : goal.returns-clause-wanted
returns-clause-wanted c =
    let asked = c.args.asked.now in
    record {
      usual = c.in_ok-wanted.wanted.items;
      are_usual = c.in_ok-wanted.ensures;
      are = subst (λ (calls : List AskedArguments). InTurn (AreWithCall asked.arch c.args.observed.now) calls c.in_ok-wanted.wanted.items
          c.push_calls.new.wanted.items) c.deref.ensures.value c.in_ok-push_calls.ensures.added;
    }

pub returns-in_err-push_calls-clause-cause : goal.returns-in_err-push_calls-clause-cause
returns-in_err-push_calls-clause-cause c =
    let error = err_from_is_err_and c.from_residual-in_err-push_calls.result c.from_residual-in_err-push_calls.ensures.1 in
    let own = c.in_err-push_calls.field-0.0 in
    rw (error.1, error.2) (inr (subst (Any (λ (call : AskedArguments). IsUncalled c.args.asked.now.arch call.call.now own))
    c.deref.ensures.value c.in_err-push_calls.ensures.cause))
