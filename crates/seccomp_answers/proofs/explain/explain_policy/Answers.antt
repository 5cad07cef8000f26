use Rattle.std.proofs.Common.{◌≡◌, ◌∙◌, Bor, None, Option, Some, ap, refl, string_bytes, subst, sym}
use Rattle.std.specs.BTreeMap.{get_by_text}
use Rattle.seccompiler.specs.JsonShape.{IsFilter}
use Rattle.seccomp_entries.specs.Entries.{Lowered}
use Rattle.seccomp_answers.proofs.Found.{there}
use Rattle.seccomp_answers.proofs.chosen.Names.{asked_for, chosen_in}
use Rattle.seccomp_answers.specs.Chosen.{text_of}
use Rattle.std.specs.Prelude.{option_map}
use Rattle.std.proofs.lemmas.Result.{err_from_is_err_and}
use Rattle.seccompiler.specs.JsonTypes.{JsonFilter}
use Rattle.seccomp_answers.specs.Causes.{rejected, unchosen}
use Rattle.seccomp_answers.specs.declared.error.AnswerError.TheVariants.{NoFilter}
use Rattle.seccomp_answers.proofs.Causes.{refused_unread, unchosen_in}
use Rattle.seccomp_answers.proofs.explain.explain_policy.Goals as goal

pub returns-clause-explained : goal.returns-clause-explained
returns-clause-explained c =
    let name = string_bytes c.in_ok-name.name in
    let filters = c.in_ok-filters.filters in
    let filter = c.in-Some.filter.now in
    let read = c.in_ok-filters.ensures.filters in
    let found = subst (λ n. get_by_text filters.0 n ≡ Some filter) c.as_str.ensures.value (sym c.in-Some.ensures.value) in
    record {
      name = name;
      named = refl;
      chosen = chosen_in c.args.text.now (get_by_text filters.0) read (text_of c.args.asked) name c.in_ok-name.ensures.named;
      filter = filter;
      of_text = (read.0, read.1, there IsFilter (get_by_text filters.0) read.0 read.2 name filter found);
      policy = c.in-Ok.ensures.policy;
      lowered = c.in-Ok.lowered;
      is_lowered = c.in-Ok.ensures.lowered;
      decides = c.in-Ok.ensures.decides;
      entries = ap (λ (l : Lowered). l.entries) c.lowered.view_is;
      each = c.in_ok-records.ensures;
    }

pub returns-in_err-filters-clause-cause : goal.returns-in_err-filters-clause-cause
returns-in_err-filters-clause-cause c =
    let error = err_from_is_err_and c.from_residual.result c.from_residual.ensures.1 in
    rw (error.1, error.2)
    (rejected (refused_unread c.args.target c.args.text.now c.in_err-filters.field-0.0 c.in_err-filters.ensures.unread))

pub returns-in_err-name-clause-cause : goal.returns-in_err-name-clause-cause
returns-in_err-name-clause-cause c =
    let error = err_from_is_err_and c.from_residual-in_err-name.result c.from_residual-in_err-name.ensures.1 in
    rw (error.1, error.2) (unchosen (unchosen_in IsFilter c.args.text.now (get_by_text c.in_ok-filters.filters.0)
    c.in_ok-filters.ensures.filters (text_of c.args.asked) c.in_err-name.field-0.0 c.in_err-name.ensures.cause))

pub returns-in_err-refuse_faulty-clause-cause : goal.returns-in_err-refuse_faulty-clause-cause
returns-in_err-refuse_faulty-clause-cause c =
    let error = err_from_is_err_and c.from_residual-in_err-refuse_faulty.result c.from_residual-in_err-refuse_faulty.ensures.1 in
    rw (error.1, error.2) (rejected c.in_err-refuse_faulty.ensures)

pub returns-in_default-clause-cause : goal.returns-in_default-clause-cause
returns-in_default-clause-cause c =
    let find = get_by_text c.in_ok-filters.filters.0 in
    let asked = text_of c.args.asked in
    let name = string_bytes c.in_ok-name.name in
    let none : find name ≡ None = ap find (sym c.as_str.ensures.value) ∙ sym c.get.ensures.value
    ∙ ap (λ (o : Option (Bor JsonFilter)). option_map (λ f. f.now) o) c.in_default.is in
    unchosen (unchosen_in IsFilter c.args.text.now find c.in_ok-filters.ensures.filters asked (NoFilter c.in_ok-name.name)
    (asked_for find asked name c.in_ok-name.ensures.named none, none))
