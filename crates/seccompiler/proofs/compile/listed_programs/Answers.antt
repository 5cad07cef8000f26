use Rattle.std.proofs.Common.{ap, length, String, Global, Vec, refl, sym, ◌∙◌, arith}
use Rattle.std.proofs.lemmas.Result.{err_from_is_err_and}
use Rattle.serde_json.specs.View.{view}
use Rattle.seccompiler.specs.Policy.{Filter}
use Rattle.seccompiler.specs.declared.bpf.sock_filter.{sock_filter}
use Rattle.seccompiler.proofs.ByName.{at_next, making_none, making_more, making_done}
use Rattle.seccompiler.proofs.compile.TextPrograms.{Compiles, are_programs, refusal_of, told_by_frontend, none_inside, none_in_refusal}
use Rattle.seccompiler.proofs.compile.TextPrograms.{read_nothing, no_reader_refused}
use Rattle.seccompiler.proofs.compile.listed_programs.Goals as goal

pub returns-in_err-policies : goal.returns-in_err-policies
returns-in_err-policies c = let p = err_from_is_err_and c.from_residual.result c.from_residual.ensures.1 in
    let e = c.in_err-policies.field-0.0 in
    rw (p.1, p.2) (record {
      programs = λ text is. told_by_frontend c.args.arch text e (c.in_err-policies.ensures.0 text is);
      no_reader = read_nothing e c.in_err-policies.ensures.1;
      memory = none_inside e c.in_err-policies.ensures.2;
    })

pub loop-name-init : goal.loop-name-init
loop-name-init c = making_none _ _ _ _ refl c.in-Ok.ensures.items (omega (
  arith,
  c.in-Ok.ensures.len,
  c.in-Ok.ensures.capacity,
  c.len.ensures,
  c.in_ok-policies.policies.ok.0,
  ap (λ es. length es) c.into_iter-name-iterator.ensures.into_iter_gives.0,
))

pub loop-name-preserved : goal.loop-name-preserved
loop-name-preserved c =
    let e : String Global × Filter = (c.in-Some.name, c.in-Some.policy) in
    let entry : String Global × Vec sock_filter Global = (c.in-Some.name, c.in-Ok-to_bpf.program) in
    let of = c.in-Ok-to_bpf.ensures in
    making_more Compiles c.loop-name.invariant e entry _ _ c.in-Some.ensures.steps.0 c.push_reserved.ensures.items
    c.push_reserved.ensures.len c.push_reserved.ensures.capacity refl (record { compilable = of.compilable; compiled = of.compiled })

pub returns-in-Err : goal.returns-in-Err
returns-in-Err c =
    let so_far = c.loop-name.invariant in
    let e : String Global × Filter = (c.in-Some.name, c.in-Some.policy) in
    let all = sym c.into_iter-name-iterator.ensures.into_iter_gives.0 ∙ at_next Compiles so_far e _ c.in-Some.ensures.steps.0 in
    let policies = c.in_ok-policies.policies.items in
    let first = refusal_of c.args.arch (view c.args.value.now) policies c.in_ok-policies.ensures.1 so_far.done e _ all
    c.in_ok-policies.ensures.0 c.loop-name.programs.items so_far.made in
    rw c.from.ensures (record {
      programs = λ text is. first text is c.in-Err.error c.in-Err.ensures.refused;
      no_reader = no_reader_refused c.in-Err.error;
      memory = none_in_refusal c.in-Err.error;
    })

pub returns : goal.returns
returns c =
    let policies = c.in_ok-policies.policies.items in
    let all = making_done Compiles c.loop-name.invariant policies c.into_iter-name-iterator.ensures.into_iter_gives.0
    (grind (arith, c.in-None.ensures.steps.0)) c.in_ok-policies.ensures.0 in
    let are = are_programs c.args.arch (view c.args.value.now) policies c.in_ok-policies.ensures.1 c.loop-name.programs.items all.0 in
    record { programs = (all.1, are); no_reader = tt; memory = tt }
