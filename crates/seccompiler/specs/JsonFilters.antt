-- The filters of a JSON text, under their names.
use Rattle.std.specs.Prelude.{◌≡◌, ℕ, List, All, Contains, map, Option, Some, None, String, string_bytes, bytes_eq}
use Rattle.std.specs.BTreeMap.{BTreeMap, get_by_text}
use Rattle.std.specs.Cmp.Lexicographic.{slice_cmp}
use Rattle.std.specs.Global.{Global}
use Rattle.std.specs.List.Sorted.{IsStrictlySortedBy}
use Rattle.std.specs.Map.{lookup}
use Rattle.std.specs.Ordering.{nat_cmp}
use Rattle.serde_json.specs.Data.{Data}
use Rattle.seccompiler.specs.JsonShape.{IsObject, Has, Under, Lacks, IsFilter}
use Rattle.seccompiler.specs.JsonTypes.{JsonFilter}
use Rattle.seccompiler.specs.SyscallTable.{ComesBefore}

-- What stands under a name in a list of values with their names.
abbrev pub under : {X : Type 0} → List (String Global × X) → List ℕ → Option X
under values name = lookup (λ key. bytes_eq name (string_bytes key)) values

-- What is found under the name is, as P says, what the value is.
pub record IsFound {X : Type 0} (P : Data → X → Type 0) (find : List ℕ → Option X) (name : List ℕ) (value : Data) : Type 0 where
  pub found : X
  pub there : find name ≡ Some found
  pub own : P value found

-- The value is an object, and what is found under each of its names is, as P says, what the name's value is; under no
-- other name there is anything.
pub record AreFound {X : Type 0} (P : Data → X → Type 0) (find : List ℕ → Option X) (d : Data) : Type 0 where
  pub is_object : IsObject d
  pub each : (name : List ℕ) (value : Data) → Has d name value → IsFound P find name value
  pub no_other : (name : List ℕ) → Lacks d name → find name ≡ None

-- Each item is as P says of the value that stands under its name. They come in byte order of the names, one for each name of the
-- value.
pub record AreNamed {X : Type 0} (name_of : X → List ℕ) (P : X → Data → Type 0) (d : Data) (all : List X) : Type 0 where
  pub ordered : IsStrictlySortedBy (slice_cmp nat_cmp) (map name_of all)
  pub each : All (λ x. Under d (name_of x) (P x)) all
  pub complete : (name : List ℕ) (value : Data) → Has d name value → Contains (map name_of all) name

-- From the map back to the value: what is found under a name is, as P says, what the name's value is; if nothing is found, the value
-- hasn't the name; and so for the map's entries, one by one.
pub record IsReadBack {X : Type 0} (P : Data → X → Type 0) (m : BTreeMap (String Global) X) (d : Data) : Type 0 where
  pub there : (name : List ℕ) (x : X) → get_by_text m name ≡ Some x → Under d name (λ value. P value x)
  pub nowhere : (name : List ℕ) → get_by_text m name ≡ None → Lacks d name
  pub entries : AreNamed (λ e. string_bytes e.0) (λ e value. P value e.1) d m.entries

-- The value is an object, and each value in it is as P says.
pub record AreAll (P : Data → Type 0) (d : Data) : Type 0 where
  pub is_object : IsObject d
  pub each : (name : List ℕ) (value : Data) → Has d name value → P value

-- The value of this name is as P says, and the value of each name below it as Q says.
pub record IsLeast (P Q : Data → Type 0) (d : Data) (name : List ℕ) : Type 0 where
  pub value : Data
  pub there : Has d name value
  pub own : P value
  pub below : (other : List ℕ) (v : Data) → Has d other v → ComesBefore other name → Q v

-- The value is some filter.
abbrev pub IsSomeFilter : Data → Type 0
IsSomeFilter value = (f : JsonFilter) × IsFilter value f

-- The value of this name is no filter, and the value of each name below it is one.
abbrev pub IsLeastFault : Data → List ℕ → Type 0
IsLeastFault = IsLeast (λ value. (f : JsonFilter) → IsFilter value f → ⊥) IsSomeFilter
