use Rattle.std.proofs.Common.{◌∙◌, inl, inr}
use Rattle.seccompiler.specs.contracts.filter.SeccompFilter.{the_view}
use Rattle.seccompiler.proofs.filter.FilterEquality.{maps_equal, filters_tested}
use Rattle.seccompiler.proofs.filter.SeccompFilterPartialEq.eq.Goals.{then-eq, else-eq, then-eq-2, else-eq-2}
use Rattle.seccompiler.proofs.filter.SeccompFilterPartialEq.eq.Goals as goal

pub returns-then-eq-3 : goal.returns-then-eq-3
returns-then-eq-3 c = rw (← c.self.view_is, ← c.other.view_is)
    (filters_tested (the_view c.self.inside) (the_view c.other.inside) c.eq.result c.if-eq.value c.if-eq-2.value c.eq-then-eq-3.result
    (c.eq.ensures ∙ maps_equal c.self.inside.rules.entries c.other.inside.rules.entries)
    (elim c.if-eq.branch [
      | then-eq w ↦ inl (w.if-eq.true, w.value-is ∙ w.eq-then-eq.ensures)
      | else-eq w ↦ inr (w.if-eq.false, w.value-is ∙ w.if-eq.false)
    ])
    (elim c.if-eq-2.branch [
      | then-eq-2 w ↦ inl (w.if-eq-2.true, w.value-is ∙ w.eq-then-eq-2.ensures)
      | else-eq-2 w ↦ inr (w.if-eq-2.false, w.value-is ∙ w.if-eq-2.false)
    ])
    (inl (c.if-eq-3.true, c.eq-then-eq-3.ensures)))

pub returns-else-eq-3 : goal.returns-else-eq-3
returns-else-eq-3 c = rw (← c.self.view_is, ← c.other.view_is)
    (filters_tested (the_view c.self.inside) (the_view c.other.inside) c.eq.result c.if-eq.value c.if-eq-2.value c.if-eq-2.value
    (c.eq.ensures ∙ maps_equal c.self.inside.rules.entries c.other.inside.rules.entries)
    (elim c.if-eq.branch [
      | then-eq w ↦ inl (w.if-eq.true, w.value-is ∙ w.eq-then-eq.ensures)
      | else-eq w ↦ inr (w.if-eq.false, w.value-is ∙ w.if-eq.false)
    ])
    (elim c.if-eq-2.branch [
      | then-eq-2 w ↦ inl (w.if-eq-2.true, w.value-is ∙ w.eq-then-eq-2.ensures)
      | else-eq-2 w ↦ inr (w.if-eq-2.false, w.value-is ∙ w.if-eq-2.false)
    ])
    (inr (c.if-eq-3.false, c.if-eq-3.false)))
