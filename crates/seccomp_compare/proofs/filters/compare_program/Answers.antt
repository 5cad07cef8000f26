use Rattle.std.proofs.Common.{IfOk, sym, subst, Result, Ok, Err, List}
use Rattle.seccompiler.specs.declared.bpf.sock_filter.{sock_filter}
use Rattle.seccompiler.specs.declared.backend.BackendError.{BackendError}
use Rattle.seccomp_compare.specs.declared.Comparison.{Comparison}
use Rattle.seccomp_compare.specs.declared.Relation.{Relation}
use Rattle.seccompiler.specs.Policy.{Filter}
use Rattle.seccomp_compare.specs.Compare.{CallSet, Compares}
use Rattle.seccomp_compare.specs.CompareFilters.{ComparesProgram}
use Rattle.seccomp_tree.specs.Layouts.{Decides}
use Rattle.seccomp_compare.proofs.filters.ComparedDecisions.{compares_program}
use Rattle.seccomp_compare.proofs.filters.compare_program.Goals as goal

-- what an answer says of the programs it says of the first and of the filter
of_answer : (calls : CallSet) (relation : Relation) (p : List sock_filter) (f : Filter)
    (q : List sock_filter) (answer : Result Comparison BackendError)
    → Decides f q → IfOk answer (λ a. Compares calls relation p q a) → IfOk answer (λ a. ComparesProgram calls relation p f a)
of_answer calls relation p f q (Ok answer) of_f known = compares_program calls relation p f q answer of_f known
of_answer calls relation p f q (Err e) of_f known = tt

pub returns-clause-compares : goal.returns-clause-compares
returns-clause-compares c =
    let f = c.args.filter.now in
    of_answer c.args.calls.now c.args.relation c.args.program.now f _ c.compare.result
    (subst (Decides f) (sym c.deref.ensures.value) c.in_ok-own.ensures.decides)
    c.compare.ensures.compares
