use Rattle.std.proofs.Common.{◌≡◌, ◌==◌, ◌∙◌, ap, get_or, length, refl, subst, sym, true, vec_len}
use Rattle.std.proofs.lemmas.Bool.{true≢false}
use Rattle.std.proofs.lemmas.List.{take_all}
use Rattle.seccompiler.specs.Architecture.{table_of}
use Rattle.seccompiler.specs.declared.backend.TargetArch.TheVariants.{x86_64}
use Rattle.seccomp_answers.specs.declared.calls.KnownCall.{KnownCall}
use Rattle.seccomp_answers.proofs.findings.Names.{has_name}
use Rattle.seccomp_answers.proofs.calls.Calls.{AreCallsOn, are_known, lacks_call, lacks_name, next_none, next_one}
use Rattle.seccomp_answers.proofs.calls.known_calls.Goals as goal
use Rattle.seccomp_answers.proofs.calls.known_calls.Goals.{then-is_some+in_ok-push, else-is_some}

pub loop-target-preserved : goal.loop-target-preserved
loop-target-preserved c =
    let call = c.args.call.now in
    let targets = c.args.targets.now in
    let at = c.loop-target.target-index in
    let target = get_or targets at x86_64 in
    let number = c.in-Some.number in
    let own : KnownCall = record { target = target; number = number } in
    let names = has_name (table_of target) number c.name_of.result c.name_of.ensures in
    elim c.if-is_some.branch [
      | then-is_some+in_ok-push w ↦
          rw (w.calls-is, w.in_ok-push.ensures.items)
          (next_one call targets c.loop-target.calls.items at x86_64 c.loop-target-test.true c.loop-target.invariant own refl
          (record { is = c.in-Some.ensures.called; named = names.0 (sym c.is_some.ensures ∙ w.if-is_some.true) }))
      | else-is_some w ↦
          rw w.calls-is
          (next_none call targets c.loop-target.calls.items at x86_64 c.loop-target-test.true c.loop-target.invariant
          (lacks_name call target number c.in-Some.ensures.called (names.1 (sym c.is_some.ensures ∙ w.if-is_some.false))))
    ]

pub loop-target-preserved-in_default : goal.loop-target-preserved-in_default
loop-target-preserved-in_default c =
    let call = c.args.call.now in
    let targets = c.args.targets.now in
    let at = c.loop-target.target-index in
    next_none call targets c.loop-target.calls.items at x86_64 c.loop-target-test.true c.loop-target.invariant
    (lacks_call call (get_or targets at x86_64) c.in_default.ensures.uncalled)

pub returns-clause-known : goal.returns-clause-known
returns-clause-known c =
    let call = c.args.call.now in
    let targets = c.args.targets.now in
    let calls = c.loop-target.calls in
    let all = subst (λ ts. AreCallsOn call ts calls.items) (take_all c.loop-target.target-index targets c.loop-target-test.false)
    c.loop-target.invariant in
    are_known call targets calls.items all (λ none.
    let zero : vec_len calls ≡ 0 = calls.ok.0 ∙ ap length none in
    let yes : c.is_empty.result ≡ true = c.is_empty.ensures ∙ ap (λ n. n == 0) zero in
    true≢false (sym yes ∙ c.if-is_empty.false))
