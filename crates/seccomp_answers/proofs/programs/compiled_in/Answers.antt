use Rattle.std.proofs.Common.{◌∷◌, [], ◌++◌, String, Global, rules, string_bytes, string_cmp, sym, ap, ◌∙◌, subst}
use Rattle.std.proofs.Common.{append_assoc, append-nil}
use Rattle.std.specs.BTreeMap.{get_by_text}
use Rattle.std.specs.List.{AllZip}
use Rattle.std.specs.List.Sorted.{IsStrictlySortedBy}
use Rattle.std.specs.Map.{keys_of}
use Rattle.std.proofs.lemmas.Result.{err_from_is_err_and}
use Rattle.std.proofs.lemmas.Slice.Zip.{all_zipped_more}
use Rattle.seccompiler.specs.Policy.{Filter}
use Rattle.seccomp_compare.specs.Machine.{IsChecked}
use Rattle.seccomp_compare.proofs.OfSeven.{checked_of_seven}
use Rattle.seccomp_answers.proofs.Causes.{unfit_among}
use Rattle.seccomp_answers.proofs.diff.Names.{Entries, next_found}
use Rattle.seccomp_answers.specs.Compiled.{IsCompiledAs}
use Rattle.seccomp_answers.specs.declared.programs.NamedProgram.{NamedProgram}
use Rattle.seccomp_answers.proofs.programs.compiled_in.Goals as goal

pub measure_of-requires : goal.measure_of-requires
measure_of-requires c = subst IsChecked (sym c.deref.ensures.value) (checked_of_seven _ c.in_ok-program.ensures.checked)

pub loop-name-preserved : goal.loop-name-preserved
loop-name-preserved c =
    let l = c.loop-name in
    let done : Entries = l.invariant.done in
    let e : String Global × Filter = (c.in-Some.name.now, c.in-Some.filter.now) in
    let made : NamedProgram =
    record { name = c.in_ok-name.name; program = c.in_ok-program.program; measure = c.in_ok-measure.measure } in
    record {
      done = done ++ e ∷ [];
      whole = l.invariant.whole ∙ ap (λ (es : Entries). done ++ es) c.in-Some.ensures.steps
          ∙ sym (append_assoc done (e ∷ []) c.next.new.self);
      compiled = subst (AllZip (IsCompiledAs c.args.layout) (done ++ e ∷ [])) (sym c.in_ok-push.ensures.items)
          (all_zipped_more (IsCompiledAs c.args.layout) done l.programs.items e made l.invariant.compiled
          (record { name = c.in_ok-name.ensures.cases; compiled = c.in_ok-program.ensures.compiled }));
    }

pub returns-clause-programs : goal.returns-clause-programs
returns-clause-programs c =
    let l = c.loop-name in
    let done : Entries = l.invariant.done in
    let all = l.invariant.whole ∙ ap (λ (es : Entries). done ++ es) c.in-None.ensures.steps.0 ∙ append-nil done in
    subst (λ (es : Entries). AllZip (IsCompiledAs c.args.layout) es l.programs.items) (sym all) l.invariant.compiled

pub returns-in_err-program-clause-refused : goal.returns-in_err-program-clause-refused
returns-in_err-program-clause-refused c =
    let error = err_from_is_err_and c.from_residual.result c.from_residual.ensures.1 in
    let l = c.loop-name in
    let entries = c.args.filters.now.entries in
    let e : String Global × Filter = (c.in-Some.name.now, c.in-Some.filter.now) in
    let order : IsStrictlySortedBy string_cmp (keys_of entries) = search rules in
    let there = next_found entries l.invariant.done l.name-iterator c.next.new.self e order l.invariant.whole c.in-Some.ensures.steps in
    rw (error.1, error.2) (unfit_among c.args.layout (get_by_text c.args.filters.now) (string_bytes e.0) e.1 there
    c.in_err-program.field-0.0 c.in_err-program.ensures.refused)
