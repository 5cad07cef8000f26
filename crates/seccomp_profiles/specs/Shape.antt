-- Which JSON values are which parts of a profile (OCI runtime specification, `linux.seccomp`). Nothing but the forms
-- given here is one.
use Rattle.std.specs.Prelude.{◌≡◌, ℕ, ◌-◌, ◌^◌, ◌⊎◌, List, [], ◌∷◌, Option, Some, None, codes, unwrap_or, ⊤}
use Rattle.serde_json.specs.Data.{Data, null, string, array, Items, no_items}
use Rattle.serde_json.specs.Find.{get}
use Rattle.seccompiler.specs.JsonShape.{HasOnly, IsWhole, Under, OneByOne}
use Rattle.seccompiler.specs.declared.backend.SeccompAction.TheVariants.{Allow, Errno, KillThread, KillProcess, Log, Trace, Trap}
use Rattle.seccomp_entries.specs.declared.entry.Action.{Action}
use Rattle.seccomp_entries.specs.declared.entry.Action.TheVariants.{Notify, Own}
use Rattle.seccomp_profiles.specs.declared.types.Operator.{Operator}
use Rattle.seccomp_profiles.specs.declared.types.Operator.TheVariants as operator
use Rattle.seccomp_profiles.specs.declared.types.Flag.{Flag}
use Rattle.seccomp_profiles.specs.declared.types.Flag.TheVariants as flag
use Rattle.seccomp_profiles.specs.declared.types.Argument.{Argument}

-- ---- what may be left out

-- Nothing stands there, or null.
abbrev pub IsAbsent : Option Data → Type 0
IsAbsent None = ⊤
IsAbsent (Some null) = ⊤
IsAbsent (Some _) = ⊥

-- What stands there is this whole number, at most `most`; nothing, or null, stands for `otherwise`.
abbrev pub IsWholeOr : ℕ → ℕ → Option Data → ℕ → Type 0
IsWholeOr otherwise most None n = n ≡ otherwise
IsWholeOr otherwise most (Some null) n = n ≡ otherwise
IsWholeOr otherwise most (Some d) n = IsWhole most d n

-- The items that stand there: none if nothing stands there, or null; else those of an array.
abbrev pub items_of : Option Data → Option Items
items_of None = Some no_items
items_of (Some null) = Some no_items
items_of (Some (array items)) = Some items
items_of (Some _) = None

-- The items that stand there are these, one by one and in order, as P says.
pub record IsListed {X : Type 0} (P : Data → X → Type 0) (o : Option Data) (xs : List X) : Type 0 where
  pub items : Items
  pub there : items_of o ≡ Some items
  pub own : OneByOne P items xs

-- The value is this text.
abbrev pub IsText : Data → List ℕ → Type 0
IsText d text = d ≡ string text

-- ---- actions

-- The text, with this number beside it, is this action. The number of an action that has one is 1 (EPERM) if none is given, and an
-- action that has none may have none beside it.
abbrev pub IsAction : Data → Option ℕ → Action → Type 0
IsAction d o (Own Allow) = (d ≡ string (codes "SCMP_ACT_ALLOW")) × (o ≡ None)
IsAction d o (Own (Errno n)) = (d ≡ string (codes "SCMP_ACT_ERRNO")) × (n ≡ unwrap_or o 1)
IsAction d o (Own KillThread) = ((d ≡ string (codes "SCMP_ACT_KILL")) ⊎ (d ≡ string (codes "SCMP_ACT_KILL_THREAD"))) × (o ≡ None)
IsAction d o (Own KillProcess) = (d ≡ string (codes "SCMP_ACT_KILL_PROCESS")) × (o ≡ None)
IsAction d o Notify = (d ≡ string (codes "SCMP_ACT_NOTIFY")) × (o ≡ None)
IsAction d o (Own Log) = (d ≡ string (codes "SCMP_ACT_LOG")) × (o ≡ None)
IsAction d o (Own (Trace n)) = (d ≡ string (codes "SCMP_ACT_TRACE")) × (n ≡ unwrap_or o 1)
IsAction d o (Own Trap) = (d ≡ string (codes "SCMP_ACT_TRAP")) × (o ≡ None)

-- ---- conditions on arguments

-- The value is this operator.
abbrev pub IsOperator : Data → Operator → Type 0
IsOperator d operator.Ne = d ≡ string (codes "SCMP_CMP_NE")
IsOperator d operator.Lt = d ≡ string (codes "SCMP_CMP_LT")
IsOperator d operator.Le = d ≡ string (codes "SCMP_CMP_LE")
IsOperator d operator.Eq = d ≡ string (codes "SCMP_CMP_EQ")
IsOperator d operator.Ge = d ≡ string (codes "SCMP_CMP_GE")
IsOperator d operator.Gt = d ≡ string (codes "SCMP_CMP_GT")
IsOperator d operator.MaskedEq = d ≡ string (codes "SCMP_CMP_MASKED_EQ")

-- The value is this condition on an argument: an object of `index`, `value`, `op` and, if it likes, `valueTwo`.
pub record IsArgument (d : Data) (a : Argument) : Type 0 where
  pub names : HasOnly d (codes "index" ∷ codes "value" ∷ codes "valueTwo" ∷ codes "op" ∷ [])
  pub index : Under d (codes "index") (λ v. IsWhole 5 v a.index)
  pub value : Under d (codes "value") (λ v. IsWhole (2 ^ 64 - 1) v a.value)
  pub value_two : IsWholeOr 0 (2 ^ 64 - 1) (get (codes "valueTwo") d) a.value_two
  pub operator : Under d (codes "op") (λ v. IsOperator v a.operator)

-- ---- flags

-- The value is this flag.
abbrev pub IsFlag : Data → Flag → Type 0
IsFlag d flag.Tsync = d ≡ string (codes "SECCOMP_FILTER_FLAG_TSYNC")
IsFlag d flag.Log = d ≡ string (codes "SECCOMP_FILTER_FLAG_LOG")
IsFlag d flag.SpecAllow = d ≡ string (codes "SECCOMP_FILTER_FLAG_SPEC_ALLOW")
IsFlag d flag.WaitKillableRecv = d ≡ string (codes "SECCOMP_FILTER_FLAG_WAIT_KILLABLE_RECV")
