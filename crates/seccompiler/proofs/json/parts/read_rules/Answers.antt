use Rattle.std.proofs.Common.{arith}
use Rattle.serde_json.proofs.Views.{view-Array}
use Rattle.seccompiler.specs.JsonShape.{IsEntry}
use Rattle.seccompiler.proofs.json.parts.ReadLists.{next_read, next_fails, all_read}
use Rattle.seccompiler.proofs.json.parts.read_rules.Goals as goal

pub loop-item-preserved : goal.loop-item-preserved
loop-item-preserved c = (
  rw c.push_reserved.ensures.items
      (next_read IsEntry _ _ _ c.loop-item.invariant.0 _ c.loop-item-test.true c.item-item.is _
      (rw c.in-Ok-Some.field-0-is at c.in-Ok-Some.ensures)),
  omega (arith, c.push_reserved.ensures.len, c.push_reserved.ensures.capacity, c.loop-item.invariant.1),
)

pub returns-in-Ok-None : goal.returns-in-Ok-None
returns-in-Ok-None c = rw (c.in-Array.is, view-Array c.in-Array.items, ← c.deref-item-items.ensures.value)
    (next_fails IsEntry _ _ _ c.loop-item.invariant.0 _ c.loop-item-test.true c.item-item.is
    (rw c.in-Ok-None.field-0-is at c.in-Ok-None.ensures))

pub returns : goal.returns
returns c = rw (c.in-Array.is, view-Array c.in-Array.items, ← c.deref-item-items.ensures.value)
    (all_read IsEntry _ _ _ c.loop-item.invariant.0 c.loop-item-test.false)
