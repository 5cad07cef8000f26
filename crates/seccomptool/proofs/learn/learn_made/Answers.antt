use Rattle.seccomptool.proofs.Common.{◌∙◌, IfErr-weaker, IfOk-weaker, Kept, List, Observation, Trace, err_from_is_err_and, found_in, inl}
use Rattle.seccomptool.proofs.Common.{refl, string_bytes, subst, sym}
use Rattle.seccomptool.specs.Learn.{AreObserved, AreWanted, of_base, of_call, of_text, of_trace}
use Rattle.seccomptool.proofs.learn.learn_made.Goals as goal

pub returns-clause-lesson : goal.returns-clause-lesson
returns-clause-lesson g c =
    let asked = c.args.asked.now in
    let observed = c.deref-3.result.now in
    let wanted = subst (λ (all : List Observation). AreWanted asked all c.in_ok-wanted.wanted.items)
    (c.deref-2.ensures.value ∙ sym c.deref-3.ensures.value) c.in_ok-wanted.ensures.wanted in
    let read = subst (λ (all : List Observation). AreObserved asked c.deref.result.now all) (sym c.deref-3.ensures.value)
    c.in_ok-observed.ensures in
    IfOk-weaker c.views_of-made.result _ _ (λ made is. (
      record {
        traces = c.in_ok-traces.traces.items;
        are_traces = c.in_ok-traces.ensures.read;
        observed = observed;
        are_observed = subst (λ (all : List Trace). AreObserved asked all observed) c.deref.ensures.value read;
        wanted = c.deref-4.result.now;
        are_wanted = subst (λ (all : List Kept). AreWanted asked observed all) (sym c.deref-4.ensures.value) wanted;
        name = string_bytes c.in_ok-learned.learned.0;
        lesson = c.in_ok-learned.learned.1;
        others = found_in c.in_ok-learned.learned.2;
        is = c.in_ok-learned.ensures.learned;
        policy = is.1;
      },
      is.0,
    )) c.views_of-made.ensures.made

pub returns-clause-cause : goal.returns-clause-cause
returns-clause-cause g c = IfErr-weaker c.views_of-made.result _ _ (λ error is. of_text is) c.views_of-made.ensures.cause

pub returns-in_err-traces-clause-cause : goal.returns-in_err-traces-clause-cause
returns-in_err-traces-clause-cause g c =
    let error = err_from_is_err_and c.from_residual.result c.from_residual.ensures.1 in
    rw (error.1, error.2) (of_trace c.in_err-traces.ensures.cause)

pub returns-in_err-observed-clause-cause : goal.returns-in_err-observed-clause-cause
returns-in_err-observed-clause-cause g c =
    let error = err_from_is_err_and c.from_residual-in_err-observed.result c.from_residual-in_err-observed.ensures.1 in
    rw (error.1, error.2) (of_text (inl refl))

pub returns-in_err-wanted-clause-cause : goal.returns-in_err-wanted-clause-cause
returns-in_err-wanted-clause-cause g c =
    let error = err_from_is_err_and c.from_residual-in_err-wanted.result c.from_residual-in_err-wanted.ensures.1 in
    rw (error.1, error.2) (of_call c.in_err-wanted.ensures.cause)

pub returns-in_err-learned-clause-cause : goal.returns-in_err-learned-clause-cause
returns-in_err-learned-clause-cause g c =
    let error = err_from_is_err_and c.from_residual-in_err-learned.result c.from_residual-in_err-learned.ensures.1 in
    rw (error.1, error.2) (of_base c.in_err-learned.ensures.cause)
