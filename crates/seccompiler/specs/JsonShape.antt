-- Which JSON values are which parts of a filter. Nothing but the forms given here is one.
use Rattle.std.specs.Prelude.{◌≡◌, ℕ, ◌-◌, ◌^◌, ◌≤◌, List, [], ◌∷◌, Contains, Option, Some, None, codes, ⊤, false}
use Rattle.std.specs.List.{list_any}
use Rattle.std.specs.Str.{bytes_eq}
use Rattle.serde_json.specs.Data.{Data, null, number, string, array, object, unsigned, Items, no_items, item, Members}
use Rattle.serde_json.specs.Find.{get}
use Rattle.seccompiler.specs.declared.backend.SeccompAction.{SeccompAction}
use Rattle.seccompiler.specs.declared.backend.SeccompAction.TheVariants.{Allow, Errno, KillThread, KillProcess, Log, Trace, Trap}
use Rattle.seccompiler.specs.declared.backend.SeccompCmpOp.{SeccompCmpOp}
use Rattle.seccompiler.specs.declared.backend.SeccompCmpOp.TheVariants.{Eq, Ge, Gt, Le, Lt, MaskedEq, Ne}
use Rattle.seccompiler.specs.declared.backend.SeccompCmpArgLen.{SeccompCmpArgLen}
use Rattle.seccompiler.specs.declared.backend.SeccompCmpArgLen.TheVariants.{Dword, Qword}
use Rattle.seccompiler.specs.declared.json.types.JsonCondition.{JsonCondition}
use Rattle.seccompiler.specs.JsonTypes.{JsonRule, JsonFilter}

-- The value is an object.
abbrev pub IsObject : Data → Type 0
IsObject d = (members : Members) × (d ≡ object members)

-- The object has this name, with this value.
abbrev pub Has : Data → List ℕ → Data → Type 0
Has d name value = get name d ≡ Some value

-- The object has this name, and its value is as P says.
abbrev pub Under : Data → List ℕ → (Data → Type 0) → Type 0
Under d name P = (value : Data) × Has d name value × P value

-- No object, or one without this name.
abbrev pub Lacks : Data → List ℕ → Type 0
Lacks d name = get name d ≡ None

-- The value is an object, and each name that it has is one of these.
pub record HasOnly (d : Data) (names : List (List ℕ)) : Type 0 where
  pub is_object : IsObject d
  pub no_other : (name : List ℕ) (value : Data) → Has d name value → Contains names name

-- None of these names comes twice.
abbrev pub AreApart : List (List ℕ) → Type 0
AreApart [] = ⊤
AreApart (name ∷ names) = (list_any (bytes_eq name) names ≡ false) × AreApart names

-- The value is this number, which serde_json holds as a whole number, at most `most`.
pub record IsWhole (most : ℕ) (d : Data) (n : ℕ) : Type 0 where
  pub held : d ≡ number (unsigned n)
  pub small : n ≤ most

-- The value is an object of this one name, whose value is this whole number, at most `most`.
pub record IsNumbered (most : ℕ) (name : List ℕ) (d : Data) (n : ℕ) : Type 0 where
  pub names : HasOnly d (name ∷ [])
  pub count : Under d name (λ value. IsWhole most value n)

-- The value is this action.
abbrev pub IsAction : Data → SeccompAction → Type 0
IsAction d Allow = d ≡ string (codes "allow")
IsAction d (Errno n) = IsNumbered (2 ^ 32 - 1) (codes "errno") d n
IsAction d KillThread = d ≡ string (codes "kill_thread")
IsAction d KillProcess = d ≡ string (codes "kill_process")
IsAction d Log = d ≡ string (codes "log")
IsAction d (Trace n) = IsNumbered (2 ^ 32 - 1) (codes "trace") d n
IsAction d Trap = d ≡ string (codes "trap")

-- The value is this operator.
abbrev pub IsOperator : Data → SeccompCmpOp → Type 0
IsOperator d Eq = d ≡ string (codes "eq")
IsOperator d Ge = d ≡ string (codes "ge")
IsOperator d Gt = d ≡ string (codes "gt")
IsOperator d Le = d ≡ string (codes "le")
IsOperator d Lt = d ≡ string (codes "lt")
IsOperator d (MaskedEq mask) = IsNumbered (2 ^ 64 - 1) (codes "masked_eq") d mask
IsOperator d Ne = d ≡ string (codes "ne")

-- The value is this length of an argument.
abbrev pub IsArgLen : Data → SeccompCmpArgLen → Type 0
IsArgLen d Dword = d ≡ string (codes "dword")
IsArgLen d Qword = d ≡ string (codes "qword")

-- What is under `comment`, if anything, is null or a text.
abbrev pub IsComment : Option Data → Type 0
IsComment None = ⊤
IsComment (Some null) = ⊤
IsComment (Some (string text)) = ⊤
IsComment (Some _) = ⊥

-- The object's comment is so.
abbrev pub IsCommented : Data → Type 0
IsCommented d = IsComment (get (codes "comment") d)

-- The value is this condition: an object of `index`, `type`, `op`, `val` and, if it likes, `comment`.
pub record IsCondition (d : Data) (c : JsonCondition) : Type 0 where
  pub names : HasOnly d (codes "index" ∷ codes "type" ∷ codes "op" ∷ codes "val" ∷ codes "comment" ∷ [])
  pub comment : IsCommented d
  pub arg_index : Under d (codes "index") (λ value. IsWhole 255 value c.arg_index)
  pub arg_len : Under d (codes "type") (λ value. IsArgLen value c.arg_len)
  pub operator : Under d (codes "op") (λ value. IsOperator value c.operator)
  pub value : Under d (codes "val") (λ value. IsWhole (2 ^ 64 - 1) value c.value)

-- The items are these, one by one and in order, as P says.
abbrev pub OneByOne : {X : Type 0} → (Data → X → Type 0) → Items → List X → Type 0
OneByOne P no_items [] = ⊤
OneByOne P (item d items) (x ∷ xs) = P d x × OneByOne P items xs
OneByOne P _ _ = ⊥

-- The value is the list of these.
abbrev pub IsListOf : {X : Type 0} → (Data → X → Type 0) → Data → List X → Type 0
IsListOf P (array items) xs = OneByOne P items xs
IsListOf P _ xs = ⊥

-- What is under `args`, if anything, is these conditions: none if it is nothing, or null; else those that it lists.
abbrev pub IsArgs : Option Data → Option (List JsonCondition) → Type 0
IsArgs None conditions = conditions ≡ None
IsArgs (Some null) conditions = conditions ≡ None
IsArgs (Some (array items)) (Some conditions) = OneByOne IsCondition items conditions
IsArgs _ _ = ⊥

-- The value is this entry: an object of `syscall` and, if it likes, `args` and `comment`.
pub record IsEntry (d : Data) (r : JsonRule) : Type 0 where
  pub names : HasOnly d (codes "syscall" ∷ codes "args" ∷ codes "comment" ∷ [])
  pub comment : IsCommented d
  pub syscall : Under d (codes "syscall") (λ value. value ≡ string r.syscall)
  pub conditions : IsArgs (get (codes "args") d) r.conditions

-- Exactly one of two values is there, and it is this action.
abbrev pub IsOneAction : Option Data → Option Data → SeccompAction → Type 0
IsOneAction (Some value) None action = IsAction value action
IsOneAction None (Some value) action = IsAction value action
IsOneAction _ _ action = ⊥

-- The value is this filter: an object of its two actions, each under one of two names, and its entries.
pub record IsFilter (d : Data) (f : JsonFilter) : Type 0 where
  pub names : HasOnly d (codes "mismatch_action" ∷ codes "default_action" ∷ codes "match_action"
      ∷ codes "filter_action" ∷ codes "filter" ∷ [])
  pub mismatch_action : IsOneAction (get (codes "mismatch_action") d) (get (codes "default_action") d) f.mismatch_action
  pub match_action : IsOneAction (get (codes "match_action") d) (get (codes "filter_action") d) f.match_action
  pub rules : Under d (codes "filter") (λ value. IsListOf IsEntry value f.rules)
