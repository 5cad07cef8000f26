use Rattle.std.specs.BTreeMap.{get_by_text}
use Rattle.std.proofs.lemmas.Result.{err_from_is_err_and}
use Rattle.seccompiler.specs.JsonAnswers.{HasPolicy}
use Rattle.seccomp_answers.proofs.Causes.{missing_in, told_among}
use Rattle.seccomp_answers.proofs.Named.{are_named}
use Rattle.seccomp_answers.specs.Causes.{of_name, unread}
use Rattle.seccomp_answers.specs.Chosen.{text_of}
use Rattle.seccomp_answers.specs.Compiled.{HasProgram, IsCompiledAs, name_of}
use Rattle.seccomp_answers.proofs.programs.programs_in.Goals as goal

pub returns-clause-programs : goal.returns-clause-programs
returns-clause-programs c =
    let of = c.in_ok-filters.ensures.policies in
    let made = c.in_ok-programs in (
      of.0,
      of.1,
      are_named (HasPolicy c.args.target) of.0 c.in_ok-filters.filters.entries
          (c.in_ok-filters.ensures.read_back of.0 of.2).entries
          name_of (IsCompiledAs c.args.layout)
          (λ made value. HasProgram c.args.layout c.args.target value made.program.items) (λ e made is. is.name)
          (λ e made value is has. record { policy = e.1; is_policy = has; compiled = is.compiled })
          made.programs.items made.ensures.programs,
    )

pub returns-in_err-filters-clause-cause : goal.returns-in_err-filters-clause-cause
returns-in_err-filters-clause-cause c =
    let error = err_from_is_err_and c.from_residual.result c.from_residual.ensures.1 in
    rw (error.1, error.2) (unread c.in_err-filters.ensures.unread)

pub returns-in_err-refuse_missing-clause-cause : goal.returns-in_err-refuse_missing-clause-cause
returns-in_err-refuse_missing-clause-cause c =
    let error = err_from_is_err_and c.from_residual-in_err-refuse_missing.result c.from_residual-in_err-refuse_missing.ensures.1 in
    rw (error.1, error.2) (of_name (missing_in (HasPolicy c.args.target) c.args.text.now (get_by_text c.in_ok-filters.filters)
    c.in_ok-filters.ensures.policies (text_of c.args.asked) c.in_err-refuse_missing.field-0.0 c.in_err-refuse_missing.ensures))

pub returns-in_err-programs-clause-cause : goal.returns-in_err-programs-clause-cause
returns-in_err-programs-clause-cause c =
    let at = c.from_residual-in_err-programs in
    let error = err_from_is_err_and at.result at.ensures.1 in
    let of = c.in_ok-filters.ensures in
    rw (error.1, error.2) (told_among c.args.target c.args.text.now (get_by_text c.in_ok-filters.filters) of.policies of.numbers
    c.args.layout (text_of c.args.asked) c.in_err-programs.field-0.0 c.in_err-programs.ensures.refused)
