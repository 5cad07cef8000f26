use Rattle.std.proofs.Common.{◌≡◌, ◌∙◌, Bor, None, Option, Some, ap, inl, inr, string_bytes, sym}
use Rattle.std.specs.BTreeMap.{get_by_text}
use Rattle.std.specs.Prelude.{option_map}
use Rattle.std.proofs.lemmas.Result.{err_from_is_err_and}
use Rattle.seccompiler.specs.JsonShape.{IsFilter}
use Rattle.seccompiler.specs.JsonTypes.{JsonFilter}
use Rattle.seccomp_answers.proofs.Found.{there}
use Rattle.seccomp_answers.specs.Chosen.{text_of}
use Rattle.seccomp_answers.specs.declared.error.AnswerError.TheVariants.{NoFilter}
use Rattle.seccomp_answers.proofs.Causes.{unchosen_in}
use Rattle.seccomp_answers.proofs.chosen.Names.{asked_for, chosen_in}
use Rattle.seccomp_answers.proofs.chosen.named_filters.Goals as goal

pub returns-in-Some-clause-chosen : goal.returns-in-Some-clause-chosen
returns-in-Some-clause-chosen c = chosen_in c.args.text.now (get_by_text c.in_ok-filters.filters.0) c.in_ok-filters.ensures.filters
    (text_of c.args.asked) (string_bytes c.in_ok-name.name) c.in_ok-name.ensures.named

pub returns-in-Some-clause-there : goal.returns-in-Some-clause-there
returns-in-Some-clause-there c =
    let find = get_by_text c.in_ok-filters.filters.0 in
    let name = string_bytes c.in_ok-name.name in
    let filter = c.in-Some.field-0.now in
    let read = c.in_ok-filters.ensures.filters in
    let found : find name ≡ Some filter = ap find (sym c.as_str.ensures.value) ∙ sym c.in-Some.ensures.value in
    record { filter = filter; found = found; of_text = (read.0, read.1, there IsFilter find read.0 read.2 name filter found) }

pub returns-in_err-filters-clause-cause : goal.returns-in_err-filters-clause-cause
returns-in_err-filters-clause-cause c =
    let error = err_from_is_err_and c.from_residual.result c.from_residual.ensures.1 in
    rw (error.1, error.2) (inl c.in_err-filters.ensures.unread)

pub returns-in_err-name-clause-cause : goal.returns-in_err-name-clause-cause
returns-in_err-name-clause-cause c =
    let error = err_from_is_err_and c.from_residual-in_err-name.result c.from_residual-in_err-name.ensures.1 in
    rw (error.1, error.2) (inr (unchosen_in IsFilter c.args.text.now (get_by_text c.in_ok-filters.filters.0)
    c.in_ok-filters.ensures.filters (text_of c.args.asked) c.in_err-name.field-0.0 c.in_err-name.ensures.cause))

pub returns-in-None-clause-cause : goal.returns-in-None-clause-cause
returns-in-None-clause-cause c =
    let find = get_by_text c.in_ok-filters.filters.0 in
    let asked = text_of c.args.asked in
    let name = string_bytes c.in_ok-name.name in
    let none : find name ≡ None = ap find (sym c.as_str.ensures.value) ∙ sym c.get.ensures.value
    ∙ ap (λ (o : Option (Bor JsonFilter)). option_map (λ f. f.now) o) c.in-None.is in
    inr (unchosen_in IsFilter c.args.text.now find c.in_ok-filters.ensures.filters asked (NoFilter c.in_ok-name.name)
    (asked_for find asked name c.in_ok-name.ensures.named none, none))
