use Rattle.std.proofs.Common.{◌≡◌, ◌&&◌, Bool, true, false, refl, rules}
use Rattle.seccompiler.proofs.condition.SeccompConditionPartialEq.eq.Goals as goal

-- The code compares lengths and operators last.
reordered : (index len operator value : Bool) → (((index && value) && len) && operator) ≡ (index && (len && (operator && value)))
reordered false len operator value = refl
reordered true false operator true = refl
reordered true false operator false = refl
reordered true true false true = refl
reordered true true false false = refl
reordered true true true true = refl
reordered true true true false = refl

pub returns : goal.returns
returns c = search (rules, reordered)
