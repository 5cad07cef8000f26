use Rattle.std.proofs.Common.{string_cmp, sym, subst}
use Rattle.std.specs.BTreeMap.{IsFromIterResult, get_by_text}
use Rattle.serde_json.specs.View.{view}
use Rattle.seccompiler.specs.JsonPrograms.{AreProgramsOf, IsProgramOf}
use Rattle.seccompiler.proofs.ByName.{collected_of, ordered}
use Rattle.seccompiler.proofs.ReadBack.{read_back}
use Rattle.seccompiler.proofs.compile.TextPrograms.{all_checked}
use Rattle.seccompiler.proofs.compile.programs_in.Goals as goal

pub returns-in-Ok : goal.returns-in-Ok
returns-in-Ok c =
    let arch = c.args.arch in
    let d = view c.args.value.now in
    let m = c.in-Ok.programs in
    let listed = c.in_ok-programs.programs in
    let made : IsFromIterResult string_cmp listed.items m = rw c.in-Ok.is at
    (collected_of (IsFromIterResult string_cmp) listed _ _ c.into_iter.ensures.rest c.into_iter.ensures.len c.collect.ensures.ran) in
    let same = ordered _ m c.in_ok-programs.ensures.programs.0 made in
    let are = subst (λ find. AreProgramsOf arch find d) (λ i q. sym (same q) i) c.in_ok-programs.ensures.programs.1 in
    record {
      programs = are;
      read_back = read_back (λ value program. IsProgramOf arch value program.items) m made.1;
      checked = all_checked arch (get_by_text m) d are;
      fault = tt;
      no_reader = tt;
      memory = tt;
    }
