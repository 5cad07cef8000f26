use Rattle.std.proofs.Common.{List, Option, Some, None, arith}
use Rattle.serde_json.specs.Data.{Items, array}
use Rattle.serde_json.proofs.Views.{view-Array}
use Rattle.seccompiler.specs.declared.json.types.JsonCondition.{JsonCondition}
use Rattle.seccompiler.specs.JsonShape.{IsCondition, IsArgs, OneByOne}
use Rattle.seccompiler.proofs.json.parts.ReadLists.{next_read, next_fails, all_read}
use Rattle.seccompiler.proofs.json.parts.read_args.Goals as goal

-- Items that are no conditions are no arguments.
no_args : (items : Items) → ((all : List JsonCondition) → OneByOne IsCondition items all → ⊥)
    → (o : Option (List JsonCondition)) → IsArgs (Some (array items)) o → ⊥
no_args items none None is = is
no_args items none (Some all) is = none all is

pub loop-item-preserved : goal.loop-item-preserved
loop-item-preserved c = (
  rw c.push_reserved.ensures.items
      (next_read IsCondition _ _ _ c.loop-item.invariant.0 _ c.loop-item-test.true c.item-item.is _ c.in-Some-read_condition.ensures),
  omega (arith, c.push_reserved.ensures.len, c.push_reserved.ensures.capacity, c.loop-item.invariant.1),
)

pub returns-in-None : goal.returns-in-None
returns-in-None c =
    let none = next_fails IsCondition _ _ _ c.loop-item.invariant.0 _ c.loop-item-test.true c.item-item.is c.in-None.ensures in
    rw (c.in-Some.is, c.in-Array.is, view-Array c.in-Array.items) (no_args _ (rw c.deref-item-items.ensures.value at none))

pub returns : goal.returns
returns c = rw (c.in-Some.is, c.in-Array.is, view-Array c.in-Array.items, ← c.deref-item-items.ensures.value)
    (all_read IsCondition _ _ _ c.loop-item.invariant.0 c.loop-item-test.false)
