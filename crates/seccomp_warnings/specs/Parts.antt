-- The parts of policies and profiles of which warnings are told.
use Rattle.std.specs.Prelude.{◌≡◌, List}
use Rattle.seccompiler.specs.declared.backend.TargetArch.{TargetArch}
use Rattle.seccompiler.specs.JsonTypes.{JsonFilter}
use Rattle.seccomp_entries.specs.declared.entry.Action.TheVariants.{Own}
use Rattle.seccomp_entries.specs.Entries.{Entry, Lowered}
use Rattle.seccomp_warnings.specs.declared.warning.Actions.{Actions}

-- Entries that stand beside each other, with two actions: that of the calls that some entry matches, and that of the rest.
pub record Part : Type 0 where
  pub target_arch : TargetArch
  pub actions : Actions
  pub entries : List Entry

-- A filter of a policy is one part: all its entries in one form, which are these, with both its actions.
pub record IsPartOfPolicy (target : TargetArch) (j : JsonFilter) (l : Lowered) (p : Part) : Type 0 where
  pub target_arch : p.target_arch ≡ target
  pub mismatch : p.actions.mismatch ≡ Own j.mismatch_action
  pub matching : p.actions.matching ≡ Own j.match_action
  pub entries : p.entries ≡ l.entries
