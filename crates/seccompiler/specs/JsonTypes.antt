-- The parts of a JSON filter that own memory, as contracts see them: records of lists.
use Rattle.std.specs.Prelude.{ℕ, List, Option}
use Rattle.seccompiler.specs.declared.backend.SeccompAction.{SeccompAction}
use Rattle.seccompiler.specs.declared.json.types.JsonCondition.{JsonCondition}

-- An entry of a filter: the bytes of its call's name, and its conditions in order, none if it has no list of them.
pub record JsonRule : Type 0 where
  pub syscall : List ℕ
  pub conditions : Option (List JsonCondition)

-- A filter: its two actions, and its entries in order.
pub record JsonFilter : Type 0 where
  pub mismatch_action : SeccompAction
  pub match_action : SeccompAction
  pub rules : List JsonRule
