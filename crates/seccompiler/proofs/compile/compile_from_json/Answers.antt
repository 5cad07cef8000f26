use Rattle.std.proofs.Common.{string_eq, sym, subst}
use Rattle.std.specs.HashMap.{IsFromIterResult, get_by_text}
use Rattle.std.proofs.lemmas.Result.{err_from_is_err_and}
use Rattle.serde_json.specs.View.{view}
use Rattle.seccompiler.specs.JsonPrograms.{AreProgramsOf}
use Rattle.seccompiler.proofs.ByName.{collected_of, hashed}
use Rattle.seccompiler.proofs.compile.TextPrograms.{all_checked, told_by_frontend}
use Rattle.seccompiler.proofs.compile.compile_from_json.Goals as goal

pub returns-in_err-value-clause-fault : goal.returns-in_err-value-clause-fault
returns-in_err-value-clause-fault g c =
    let p = err_from_is_err_and c.from_residual.result c.from_residual.ensures.1 in
    let read = c.in_err-value.ensures.fault in
    rw (p.1, p.2) (read.0, read.1, told_by_frontend c.args.arch read.0 c.in_err-value.field-0.0 (read.2 c.args.arch))

pub returns-in_err-programs-clause-fault : goal.returns-in_err-programs-clause-fault
returns-in_err-programs-clause-fault g c =
    let p = err_from_is_err_and c.from_residual-in_err-programs.result c.from_residual-in_err-programs.ensures.1 in
    let read = c.in_ok-value.ensures.value in
    rw (p.1, p.2) (read.0, read.1, c.in_err-programs.ensures.programs read.0 read.2)

pub returns-in-Ok : goal.returns-in-Ok
returns-in-Ok g c =
    let arch = c.args.arch in
    let d = view c.in_ok-value.value in
    let m = c.in-Ok.programs in
    let listed = c.in_ok-programs.programs in
    let read = c.in_ok-value.ensures.value in
    let made : IsFromIterResult string_eq listed.items m = rw c.in-Ok.is at
    (collected_of (IsFromIterResult string_eq) listed _ _ c.into_iter.ensures.rest c.into_iter.ensures.len c.collect.ensures.ran) in
    let same = hashed _ m c.in_ok-programs.ensures.programs.0 made in
    let are = subst (λ find. AreProgramsOf arch find d) (λ i q. sym (same q) i) c.in_ok-programs.ensures.programs.1 in
    record {
      programs = (read.0, read.1, (d, read.2, are));
      checked = all_checked arch (get_by_text m) d are;
      fault = tt;
      memory = tt;
    }
