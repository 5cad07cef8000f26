-- What an object of each form has under which key, and an array at each place. docs/JSON.md has the format.
use Rattle.std.specs.Prelude.{◌≡◌, ◌⊎◌, ℕ, List, [], ◌∷◌, Contains, Bool, true, false, ◌||◌, Option, Some, None, codes, string_bytes}
use Rattle.std.specs.List.{list_any}
use Rattle.std.specs.Str.{bytes_eq}
use Rattle.seccomp_faults.specs.declared.table.Form.{Form}
use Rattle.seccomp_faults.specs.declared.table.Form.TheVariants as form
use Rattle.seccomp_faults.specs.declared.table.Rule.{Rule}
use Rattle.seccomp_faults.specs.declared.table.Rule.TheVariants as rule
use Rattle.seccomp_text.specs.declared.steps.Step.{Step}
use Rattle.seccomp_text.specs.declared.steps.Step.TheVariants as step

-- A row of the table: under this key is a value of this form, if any; or has to be; or it has to be under one of two keys and not
-- under the other; or the two actions differ; or, if the action under the first key takes no number, none is under the second; or
-- under one of two keys is nothing, or an empty value.
pub data Row : Type 0 where
  may : List ℕ → Form → Row
  must : List ℕ → Form → Row
  one_of : List ℕ → List ℕ → Form → Row
  actions_differ : Row
  none_beside : List ℕ → List ℕ → Row
  not_both : List ℕ → List ℕ → Row

abbrev pub row_of : Rule → Row
row_of (rule.May key inner) = may key.now inner
row_of (rule.Must key inner) = must key.now inner
row_of (rule.OneOf key other inner) = one_of key.now other.now inner
row_of rule.ActionsDiffer = actions_differ
row_of (rule.NoneBeside action key) = none_beside action.now key.now
row_of (rule.NotBoth key other) = not_both key.now other.now

abbrev pub rows_of : Form → List Row
rows_of form.Filter = one_of (codes "mismatch_action") (codes "default_action") form.Action
    ∷ one_of (codes "match_action") (codes "filter_action") form.Action ∷ actions_differ ∷ must (codes "filter") form.Entries ∷ []
rows_of form.Entry = may (codes "comment") form.Comment ∷ must (codes "syscall") form.Call ∷ may (codes "args") form.SomeConditions ∷ []
rows_of form.Condition = may (codes "comment") form.Comment ∷ must (codes "index") form.Argument ∷ must (codes "type") form.Length
    ∷ must (codes "op") form.Operator ∷ must (codes "val") form.Number ∷ []
rows_of form.Action = may (codes "errno") form.ActionNumber ∷ may (codes "trace") form.ActionNumber ∷ []
rows_of form.Operator = may (codes "masked_eq") form.Number ∷ []
rows_of form.Profile = must (codes "defaultAction") form.ProfileAction ∷ may (codes "defaultErrnoRet") form.ErrnoNumber
    ∷ may (codes "defaultErrno") form.ErrnoName ∷ none_beside (codes "defaultAction") (codes "defaultErrnoRet")
    ∷ none_beside (codes "defaultAction") (codes "defaultErrno") ∷ may (codes "architectures") form.List ∷ may (codes "archMap") form.List
    ∷ may (codes "flags") form.Flags ∷ may (codes "syscalls") form.ProfileEntries ∷ []
rows_of form.ProfileEntry = may (codes "comment") form.TextOrNull ∷ must (codes "action") form.ProfileAction
    ∷ may (codes "errnoRet") form.ErrnoNumber ∷ may (codes "errno") form.ErrnoName ∷ none_beside (codes "action") (codes "errnoRet")
    ∷ none_beside (codes "action") (codes "errno") ∷ may (codes "name") form.TextOrNull ∷ may (codes "names") form.Texts
    ∷ not_both (codes "names") (codes "name") ∷ may (codes "args") form.Comparisons ∷ may (codes "includes") form.Criteria
    ∷ may (codes "excludes") form.Criteria ∷ []
rows_of form.Criteria = may (codes "caps") form.Texts ∷ may (codes "arches") form.Texts ∷ may (codes "minKernel") form.Version ∷ []
rows_of form.Comparison = must (codes "index") form.ProfileIndex ∷ must (codes "value") form.ProfileNumber
    ∷ may (codes "valueTwo") form.NumberOrNull ∷ must (codes "op") form.ProfileOperator ∷ []
rows_of _ = []

-- The form of the value under each key.
abbrev pub member_of : Form → Option Form
member_of form.Policy = Some form.Filter
member_of _ = None

-- The form of each item of an array.
abbrev pub item_of : Form → Option Form
item_of form.Entries = Some form.Entry
item_of form.Conditions = Some form.Condition
item_of form.SomeConditions = Some form.Condition
item_of form.Flags = Some form.Flag
item_of form.Texts = Some form.Text
item_of form.ProfileEntries = Some form.ProfileEntry
item_of form.Comparisons = Some form.Comparison
item_of _ = None

-- An object of this form has no other keys.
abbrev pub is_closed : Form → Bool
is_closed form.Filter = true
is_closed form.Entry = true
is_closed form.Condition = true
is_closed form.ProfileEntry = true
is_closed form.Criteria = true
is_closed form.Comparison = true
is_closed _ = false

-- The form that the value has to be of first.
abbrev pub wider : Form → Option Form
wider form.Call = Some form.Name
wider form.SomeConditions = Some form.Conditions
wider form.Argument = Some form.Index
wider _ = None

-- The row gives this key this form.
abbrev pub Gives : List ℕ → Form → Row → Type 0
Gives key inner (may own f) = (own ≡ key) × (f ≡ inner)
Gives key inner (must own f) = (own ≡ key) × (f ≡ inner)
Gives key inner (one_of own other f) = ((own ≡ key) ⊎ (other ≡ key)) × (f ≡ inner)
Gives key inner _ = ⊥

-- The form's table gives this key this form.
abbrev pub IsUnder : (outer : Form) → List ℕ → (inner : Form) → Type 0
IsUnder outer key inner = (member_of outer ≡ Some inner) ⊎ ((row : Row) × Contains (rows_of outer) row × Gives key inner row)

-- The row is about this key.
abbrev pub names : List ℕ → Row → Bool
names key (may own f) = bytes_eq own key
names key (must own f) = bytes_eq own key
names key (one_of own other f) = bytes_eq own key || bytes_eq other key
names key _ = false

-- An object of this form may have the key.
abbrev pub has_key : Form → List ℕ → Bool
has_key f key = list_any (names key) (rows_of f)

-- The step leads from a value of the outer form to one that has to be of the inner.
abbrev pub IsInside : (outer : Form) → Step → (inner : Form) → Type 0
IsInside outer (step.Key key) inner = IsUnder outer (string_bytes key) inner
IsInside outer (step.Item i) inner = item_of outer ≡ Some inner
