-- Which values are of which form, whatever is inside an object or an array.
use Rattle.std.specs.Prelude.{◌≡◌, ◌≢◌, ℕ, ◌^◌, ◌-◌, ◌⊎◌, List, Option, Some, None}
use Rattle.serde_json.specs.Data.{Data, null, string, array, Items, no_items}
use Rattle.seccompiler.specs.declared.backend.SeccompAction.{SeccompAction}
use Rattle.seccompiler.specs.declared.backend.SeccompCmpOp.{SeccompCmpOp}
use Rattle.seccompiler.specs.declared.backend.SeccompCmpArgLen.{SeccompCmpArgLen}
use Rattle.seccompiler.specs.declared.backend.TargetArch.{TargetArch}
use Rattle.seccompiler.specs.JsonShape.{IsObject, IsWhole, IsAction, IsOperator, IsArgLen, IsComment}
use Rattle.seccompiler.specs.Architecture.{table_of}
use Rattle.seccompiler.specs.SyscallTable.{number_of}
use Rattle.seccomp_entries.specs.declared.entry.Action.{Action}
use Rattle.seccomp_profiles.specs.Actions.{IsNamedOr}
use Rattle.seccomp_profiles.specs.Shape as profile
use Rattle.seccomp_profiles.specs.Shape.{IsFlag, IsWholeOr, items_of}
use Rattle.seccomp_profiles.specs.Version.{IsKernelOr}
use Rattle.seccomp_profiles.specs.declared.types.Flag.{Flag}
use Rattle.seccomp_profiles.specs.declared.types.Kernel.{Kernel}
use Rattle.seccomp_profiles.specs.declared.types.Operator.{Operator}
use Rattle.seccomp_faults.specs.Table.{wider}
use Rattle.seccomp_faults.specs.declared.table.Form.{Form}
use Rattle.seccomp_faults.specs.declared.table.Form.TheVariants as form

-- The value is an array.
abbrev pub IsArray : Data → Type 0
IsArray d = (items : Items) × (d ≡ array items)

-- The value is a text.
abbrev pub IsText : Data → Type 0
IsText d = (text : List ℕ) × (d ≡ string text)

-- The value is null or an array.
abbrev pub IsList : Data → Type 0
IsList d = (items : Items) × (items_of (Some d) ≡ Some items)

-- The value is the name of a call of the architecture.
abbrev pub IsCallOf : TargetArch → Data → Type 0
IsCallOf target d = (text : List ℕ) × (d ≡ string text) × (number_of (table_of target) text ≢ None)

-- The value is of this form. Those that aren't listed are of lists.
abbrev pub IsOf : TargetArch → Form → Data → Type 0
IsOf target form.Policy d = IsObject d
IsOf target form.Filter d = IsObject d
IsOf target form.Entry d = IsObject d
IsOf target form.Condition d = IsObject d
IsOf target form.Action d = (a : SeccompAction) × IsAction d a
IsOf target form.Entries d = IsArray d
IsOf target form.Name d = IsText d
IsOf target form.Call d = IsCallOf target d
IsOf target form.Comment d = IsComment (Some d)
IsOf target form.Conditions d = (d ≡ null) ⊎ IsArray d
IsOf target form.SomeConditions d = d ≢ array no_items
IsOf target form.Index d = (n : ℕ) × IsWhole 255 d n
IsOf target form.Argument d = (n : ℕ) × IsWhole 5 d n
IsOf target form.Length d = (l : SeccompCmpArgLen) × IsArgLen d l
IsOf target form.Operator d = (o : SeccompCmpOp) × IsOperator d o
IsOf target form.ActionNumber d = (n : ℕ) × IsWhole (2 ^ 32 - 1) d n
IsOf target form.Number d = (n : ℕ) × IsWhole (2 ^ 64 - 1) d n
IsOf target form.Profile d = IsObject d
IsOf target form.ProfileEntry d = IsObject d
IsOf target form.Criteria d = (d ≡ null) ⊎ IsObject d
IsOf target form.Comparison d = IsObject d
IsOf target form.ProfileAction d = (a : Action) × profile.IsAction d None a
IsOf target form.ErrnoNumber d = (n : ℕ) × IsWholeOr 1 65535 (Some d) n
IsOf target form.ErrnoName d = (o : Option ℕ) × IsNamedOr (Some d) o
IsOf target form.Flag d = (f : Flag) × IsFlag d f
IsOf target form.Text d = IsText d
IsOf target form.TextOrNull d = IsComment (Some d)
IsOf target form.ProfileIndex d = (n : ℕ) × IsWhole 5 d n
IsOf target form.ProfileNumber d = (n : ℕ) × IsWhole (2 ^ 64 - 1) d n
IsOf target form.NumberOrNull d = (n : ℕ) × IsWholeOr 0 (2 ^ 64 - 1) (Some d) n
IsOf target form.ProfileOperator d = (o : Operator) × profile.IsOperator d o
IsOf target form.Version d = (o : Option Kernel) × IsKernelOr (Some d) o
IsOf target _ d = IsList d

-- A value that has to be of the form is not of this one, which is the form or the wider one.
abbrev pub Misses : TargetArch → (own missed : Form) → Data → Type 0
Misses target own missed d = ((missed ≡ own) ⊎ (wider own ≡ Some missed)) × (IsOf target missed d → ⊥)
