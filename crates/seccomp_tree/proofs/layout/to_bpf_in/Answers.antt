use Rattle.seccomp_tree.proofs.Common.{ℕ, List, subst, IfOk-weaker, sock_filter, IsRecord, Ends, Filter, EndsAtDecision, Layout, Linear}
use Rattle.seccomp_tree.proofs.{Common.Tree, Common.AgreesInAll, Common.IsCompiledIn, Decided.one_decision}
use Rattle.seccomp_tree.proofs.layout.to_bpf_in.Goals as goal

ends_at : (layout : Layout) (f : Filter) (p : List sock_filter) → IsCompiledIn layout f p → (r : List ℕ) → IsRecord r → EndsAtDecision f p r
ends_at Linear f p compiled = compiled.decides
ends_at Tree f p compiled = compiled.decides

agree : (layout : Layout) (f : Filter) (p : List sock_filter) → IsCompiledIn layout f p → AgreesInAll f p
agree layout f p compiled = λ other q also r rec.
    let x = ends_at layout f p compiled r rec in
    let y = ends_at other f q also r rec in
    let same = one_decision f r y.word x.word y.decision x.decision in
    (x.word, x.steps, y.steps, x.ends, subst (Ends q r y.steps) same y.ends)

pub returns-in-Ok-clause-agrees : goal.returns-in-Ok-clause-agrees
returns-in-Ok-clause-agrees c = agree Linear c.args.filter.now c.in-Ok.program.items c.in-Ok.ensures.compiled

pub returns-clause-agrees : goal.returns-clause-agrees
returns-clause-agrees c = IfOk-weaker c.to_tree_bpf.result _ _ (λ p h. agree Tree c.args.filter.now p.items h)
    c.to_tree_bpf.ensures.compiled
