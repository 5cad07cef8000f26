use Rattle.seccomptool.proofs.Common.{◌∙◌, ◌≡◌, ◌≢◌, Allow, JsonFilter, List, None, Some, ap, beside, err_from_is_err_and, found_in}
use Rattle.seccomptool.proofs.Common.{get_by_text, rules, string_bytes, subst, sym, ℕ}
use Rattle.seccompiler.specs.JsonFilters.{AreFound}
use Rattle.seccompiler.specs.JsonShape.{IsFilter}
use Rattle.seccomptool.specs.Learn.{denying, unpicked}
use Rattle.seccomptool.proofs.learn.base_of.Goals as goal

pub returns-in-Allow-clause-base : goal.returns-in-Allow-clause-base
returns-in-Allow-clause-base c =
    let name = string_bytes c.in_ok-others.name in
    let read = c.in_ok-others.ensures.filters in
    let taken = c.in-Some.ensures.taken
    ∙ ap (λ (n : List ℕ). beside (found_in c.take_filter.new.filters) n c.in-Some.filter) c.as_str.ensures.value in
    rw c.in-Into.is (
      c.in_ok-others.ensures.chosen,
      (read.0, read.1, subst (λ find. AreFound IsFilter find read.0) taken read.2),
      search rules,
    )

pub returns-in_err-others-clause-cause : goal.returns-in_err-others-clause-cause
returns-in_err-others-clause-cause c =
    let error = err_from_is_err_and c.from_residual-in_err-others.result c.from_residual-in_err-others.ensures.1 in
    rw (error.1, error.2) (unpicked (_, c.in-Into.is, c.in_err-others.ensures.cause))

pub returns-in_default-clause-cause : goal.returns-in_default-clause-cause
returns-in_default-clause-cause c =
    let has = c.in_ok-others.ensures.there in
    let find = get_by_text c.in_ok-others.others.0 in
    let none : find (string_bytes c.in_ok-others.name) ≡ None =
    ap find (sym c.as_str.ensures.value) ∙ sym c.take_filter.ensures.there ∙ c.in_default.is in
    let no : Some has.filter ≡ None = sym has.found ∙ none in
    cc

pub returns-in_ok-from_str-in_default-match_action : goal.returns-in_ok-from_str-in_default-match_action
returns-in_ok-from_str-in_default-match_action c =
    let has = c.in_ok-others.ensures.there in
    let find = get_by_text c.in_ok-others.others.0 in
    let name = string_bytes c.in_ok-others.name in
    let filter = c.in-Some.filter in
    let found : find name ≡ Some filter = ap find (sym c.as_str.ensures.value) ∙ sym c.in-Some.ensures.there in
    let own : has.filter ≡ filter = let e : Some has.filter ≡ Some filter = sym has.found ∙ found in cc in
    let same = ap (λ (f : JsonFilter). f.match_action) c.filter.view_is in
    let denies : filter.match_action ≢ Allow = λ allow. c.in_default-match_action.not-Allow (cc (same, allow)) in
    let of = has.of_text in
    record {
      base = tt;
      cause = denying _ c.in-Into.is name filter c.in_ok-others.ensures.chosen
          (of.0, of.1, (of.2.0, of.2.1, subst (λ (f : JsonFilter). IsFilter of.2.0 f) own of.2.2)) denies tt;
    }
