use Rattle.std.proofs.Common.{IfOk, sym, subst, Result, Ok, Err, List}
use Rattle.seccompiler.specs.declared.bpf.sock_filter.{sock_filter}
use Rattle.seccompiler.specs.declared.backend.BackendError.{BackendError}
use Rattle.seccomp_compare.specs.declared.Comparison.{Comparison}
use Rattle.seccomp_compare.specs.declared.Relation.{Relation}
use Rattle.seccompiler.specs.Policy.{Filter}
use Rattle.seccomp_compare.specs.Compare.{CallSet, Compares}
use Rattle.seccomp_compare.specs.CompareFilters.{ComparesFilters}
use Rattle.seccomp_tree.specs.Layouts.{Decides}
use Rattle.seccomp_compare.proofs.filters.ComparedDecisions.{compares_filters}
use Rattle.seccomp_compare.proofs.filters.compare_filters.Goals as goal

-- what an answer says of the programs it says of the filters
of_answer : (calls : CallSet) (relation : Relation) (f g : Filter) (p q : List sock_filter) (answer : Result Comparison BackendError)
    → Decides f p → Decides g q → IfOk answer (λ a. Compares calls relation p q a)
    → IfOk answer (λ a. ComparesFilters calls relation f g a)
of_answer calls relation f g p q (Ok answer) of_f of_g known = compares_filters calls relation f g p q answer of_f of_g known
of_answer calls relation f g p q (Err e) of_f of_g known = tt

pub returns-clause-compares : goal.returns-clause-compares
returns-clause-compares c =
    let f = c.args.filter.now in
    let g = c.args.other.now in
    of_answer c.args.calls.now c.args.relation f g _ _ c.compare.result
    (subst (Decides f) (sym c.deref.ensures.value) c.in_ok-program.ensures.decides)
    (subst (Decides g) (sym c.deref-2.ensures.value) c.in_ok-other_program.ensures.decides)
    c.compare.ensures.compares
