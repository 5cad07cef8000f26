use Rattle.std.specs.BTreeMap.{get_by_text}
use Rattle.seccomp_faults.proofs.Judgements.{all_compiled, is_rejection}
use Rattle.seccomp_faults.proofs.Parts.{view}
use Rattle.seccomp_faults.proofs.policy.check_in.Goals as goal

pub returns-in-Ok-read_filters-clause-compiled : goal.returns-in-Ok-read_filters-clause-compiled
returns-in-Ok-read_filters-clause-compiled c = (
  c.in-Ok-read_filters.ensures.filters,
  all_compiled c.args.target (get_by_text c.in-Ok._programs) (view c.args.value.now) c.in-Ok.ensures.programs,
)

pub returns-in-Err-clause-rejected : goal.returns-in-Err-clause-rejected
returns-in-Err-clause-rejected c = λ text is.
    let own = c.in-Err.ensures in
    is_rejection c.args.target text c.in-Err.refusal c.rejection_in.result own.memory own.no_reader (own.fault text is)
    (c.rejection_in.ensures text is (own.fault text is))
