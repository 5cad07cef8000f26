use Rattle.std.specs.BTreeMap.{get_by_text}
use Rattle.std.proofs.lemmas.Result.{err_from_is_err_and}
use Rattle.seccompiler.specs.JsonAnswers.{HasPolicy}
use Rattle.seccomp_tree.specs.declared.layout.Layout.TheVariants.{Linear, Tree}
use Rattle.seccomp_answers.proofs.Causes.{missing_in, told_among}
use Rattle.seccomp_answers.specs.Causes.{of_name, unread}
use Rattle.seccomp_answers.specs.Chosen.{text_of}
use Rattle.seccomp_answers.proofs.measures.stats_of.Goals as goal

pub returns-in_err-filters : goal.returns-in_err-filters
returns-in_err-filters c =
    let error = err_from_is_err_and c.from_residual.result c.from_residual.ensures.1 in
    rw (error.1, error.2) (Linear, unread c.in_err-filters.ensures.unread)

pub returns-in_err-refuse_missing : goal.returns-in_err-refuse_missing
returns-in_err-refuse_missing c =
    let error = err_from_is_err_and c.from_residual-in_err-refuse_missing.result c.from_residual-in_err-refuse_missing.ensures.1 in
    rw (error.1, error.2) (
      Linear,
      of_name (missing_in (HasPolicy c.args.target) c.args.text.now (get_by_text c.in_ok-filters.filters)
          c.in_ok-filters.ensures.policies (text_of c.args.asked) c.in_err-refuse_missing.field-0.0 c.in_err-refuse_missing.ensures),
    )

pub returns-in_err-linear : goal.returns-in_err-linear
returns-in_err-linear c =
    let error = err_from_is_err_and c.from_residual-in_err-linear.result c.from_residual-in_err-linear.ensures.1 in
    let of = c.in_ok-filters.ensures in
    rw (error.1, error.2) (
      Linear,
      told_among c.args.target c.args.text.now (get_by_text c.in_ok-filters.filters) of.policies of.numbers
          Linear (text_of c.args.asked) c.in_err-linear.field-0.0 c.in_err-linear.ensures.refused,
    )

pub returns-in_err-trees : goal.returns-in_err-trees
returns-in_err-trees c =
    let error = err_from_is_err_and c.from_residual-in_err-trees.result c.from_residual-in_err-trees.ensures.1 in
    let of = c.in_ok-filters.ensures in
    rw (error.1, error.2) (
      Tree,
      told_among c.args.target c.args.text.now (get_by_text c.in_ok-filters.filters) of.policies of.numbers
          Tree (text_of c.args.asked) c.in_err-trees.field-0.0 c.in_err-trees.ensures.refused,
    )
