use Rattle.std.proofs.Common.{◌≡◌, ◌∙◌, None, Some, ap, inl, inr, string_bytes, sym}
use Rattle.std.specs.BTreeMap.{get_by_text}
use Rattle.std.proofs.lemmas.Result.{err_from_is_err_and}
use Rattle.seccompiler.specs.JsonAnswers.{HasPolicy}
use Rattle.seccomp_answers.specs.Chosen.{text_of}
use Rattle.seccomp_answers.specs.declared.error.AnswerError.TheVariants.{NoFilter}
use Rattle.seccomp_answers.proofs.Causes.{found_fits, unchosen_in}
use Rattle.seccomp_answers.proofs.chosen.Names.{asked_for}
use Rattle.seccomp_answers.proofs.chosen.chosen_filter.Goals as goal

pub returns-in-Some-clause-chosen : goal.returns-in-Some-clause-chosen
returns-in-Some-clause-chosen c =
    let find = get_by_text c.in_ok-filters.filters in
    let read = c.in_ok-filters.ensures.policies in
    record {
      filters = find;
      of_text = read;
      name = string_bytes c.in_ok-name.name;
      chosen = (c.in_ok-name.ensures.named, ap find (sym c.as_str.ensures.value) ∙ sym c.in-Some.ensures.value);
    }

pub returns-in-Some-clause-fits : goal.returns-in-Some-clause-fits
returns-in-Some-clause-fits c =
    let find = get_by_text c.in_ok-filters.filters in
    let of = c.in_ok-filters.ensures in
    let name = string_bytes c.in_ok-name.name in
    let there : find name ≡ Some c.in-Some.filter = ap find (sym c.as_str.ensures.value) ∙ sym c.in-Some.ensures.value in
    found_fits c.args.target c.args.text.now find of.policies of.numbers name c.in-Some.filter there

pub returns-in_err-filters-clause-cause : goal.returns-in_err-filters-clause-cause
returns-in_err-filters-clause-cause c =
    let error = err_from_is_err_and c.from_residual.result c.from_residual.ensures.1 in
    rw (error.1, error.2) (inl c.in_err-filters.ensures.unread)

pub returns-in_err-name-clause-cause : goal.returns-in_err-name-clause-cause
returns-in_err-name-clause-cause c =
    let target = c.args.target in
    let text = c.args.text.now in
    let find = get_by_text c.in_ok-filters.filters in
    let read = c.in_ok-filters.ensures.policies in
    let error = err_from_is_err_and c.from_residual-in_err-name.result c.from_residual-in_err-name.ensures.1 in
    rw (error.1, error.2) (inr (unchosen_in (HasPolicy target) text find read (text_of c.args.asked) c.in_err-name.field-0.0
    c.in_err-name.ensures.cause))

pub returns-clause-cause : goal.returns-clause-cause
returns-clause-cause c =
    let target = c.args.target in
    let find = get_by_text c.in_ok-filters.filters in
    let read = c.in_ok-filters.ensures.policies in
    let name = string_bytes c.in_ok-name.name in
    let none : find name ≡ None = ap find (sym c.as_str.ensures.value) ∙ sym c.remove.ensures.value ∙ c.in-None.is in
    inr (unchosen_in (HasPolicy target) c.args.text.now find read (text_of c.args.asked) (NoFilter c.in_ok-name.name)
    (asked_for find (text_of c.args.asked) name c.in_ok-name.ensures.named none, none))
