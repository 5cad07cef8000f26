use Rattle.std.proofs.Common.{◌≡◌, ℕ, List, Option, Some, None, IfSome, Vec, Global, sym, subst}
use Rattle.std.proofs.lemmas.Result.{err_from_is_err_and}
use Rattle.std.specs.Prelude.{⊤}
use Rattle.std.specs.BTreeMap.{get_by_text}
use Rattle.seccompiler.specs.declared.bpf.sock_filter.{sock_filter}
use Rattle.seccompiler.specs.Machine.{IsChecked}
use Rattle.seccompc.specs.Lines.{AreLines, Traced}
use Rattle.seccompc.specs.Policies.{IsRunnable, IsRun, IsRefusedRun}
use Rattle.seccompc.specs.Faults.{IsRefusedPolicy}
use Rattle.seccompc.specs.declared.error.ToolError.{ToolError}
use Rattle.seccompc.specs.declared.error.ToolError.TheVariants as tool
use Rattle.seccompc.proofs.Answers.{refused_before, told_of_records}
use Rattle.seccompc.proofs.Policies.{no_filter_named, filter_found}
use Rattle.seccompc.proofs.run.run_policy.Goals as goal

-- A policy that is refused is not run.
policy_run_refused : (arch : List ℕ) (known : Option (List ℕ)) (name : List ℕ) (e : ToolError) → IsRefusedPolicy arch known e
    → IsRefusedRun arch known name e
policy_run_refused arch known name (tool.Library e) refused = refused
policy_run_refused arch known name tool.OutOfMemory refused = tt
policy_run_refused arch known name _ refused = absurd refused

pub returns-in_err-programs-clause-answers : goal.returns-in_err-programs-clause-answers
returns-in_err-programs-clause-answers g c =
    let error = err_from_is_err_and c.from_residual.result c.from_residual.ensures.1 in
    let out = g.W.Write.contents c.args.out.now in
    let arch = c.args.arch.now in
    let known = g.P.Read.remaining c.args.policy in
    let name = c.args.name.now in
    let refused = policy_run_refused arch known name c.in_err-programs.field-0.0 c.in_err-programs.ensures.refused in
    rw (error.1, error.2) (refused_before (IsRunnable arch known name) (IsRun arch known name) (IsRefusedRun arch known name)
    (g.R.Read.remaining c.args.records) (λ rest no. no) (λ e no. no) (λ e no. no)
    c.in_err-programs.field-0.0 out out refused)

pub returns-in_default-clause-answers : goal.returns-in_default-clause-answers
returns-in_default-clause-answers g c =
    let programs = c.in_ok-programs.programs in
    let none : get_by_text programs c.args.name.now ≡ None = sym c.in_default.ensures.value in (
      c.in_ok-from_str.ensures.ok,
      no_filter_named c.args.arch.now (g.P.Read.remaining c.args.policy) programs c.in_ok-programs.ensures.programs
          c.args.name.now none,
    )

pub tell_records-requires : goal.tell_records-requires
tell_records-requires g c =
    let programs = c.in_ok-programs.programs in
    let found : get_by_text programs c.args.name.now ≡ Some c.in-Some.program.now = sym c.in-Some.ensures.value in
    let checked : IsChecked c.in-Some.program.now.items = subst (λ o. IfSome o
    (λ (program : Vec sock_filter Global). IsChecked program.items)) found (c.in_ok-programs.ensures.checked c.args.name.now) in
    subst IsChecked (sym c.as_slice.ensures.value) checked

pub returns-clause-answers : goal.returns-clause-answers
returns-clause-answers g c =
    let programs = c.in_ok-programs.programs in
    let program = c.in-Some.program.now in
    let found : get_by_text programs c.args.name.now ≡ Some program = sym c.in-Some.ensures.value in
    let contents = g.W.Write.contents in
    let arch = c.args.arch.now in
    let known = g.P.Read.remaining c.args.policy in
    let name = c.args.name.now in
    let of = filter_found arch known programs c.in_ok-programs.ensures.programs name program found in
    told_of_records (IsRunnable arch known name) (IsRun arch known name) (IsRefusedRun arch known name) (g.R.Read.remaining c.args.records)
    (of (λ policy. ⊤) (λ policy compiled. tt)) tt (AreLines program.items)
    (λ calls text lines. of (λ policy. Traced policy calls text) (λ policy compiled.
    record { program = program.items; compiled = compiled; lines = lines }))
    c.tell_records.result (contents c.args.out.now) (contents c.tell_records.new.out)
    (rw c.as_slice.ensures.value at c.tell_records.ensures.told)
    c.tell_records.ensures.cause
