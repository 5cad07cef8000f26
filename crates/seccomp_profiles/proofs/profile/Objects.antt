-- For `read_profile`: a profile is an object.
use Rattle.std.proofs.Common.{◌≡◌, ℕ, BTreeMap, List, String, Global, arith, refl}
use Rattle.std.specs.List.{filter}
use Rattle.serde_json.specs.Data.{Data, Members, object}
use Rattle.serde_json.specs.View.{members_view, view}
use Rattle.serde_json.proofs.Views.{view-Object}
use Rattle.serde_json.specs.declared.value.Value.{Value, the_lemmas}
use Rattle.serde_json.specs.declared.value.Value.TheVariants as v
use Rattle.seccomp_profiles.specs.ProfileShape.{AreUnknownKeys, is_unknown, keys_of}

object_of : (d : Data) (keys : List (List ℕ)) → AreUnknownKeys d keys → (members : Members) × (d ≡ object members)
object_of (object members) keys are = (members, refl)
object_of d keys are = absurd are

is_none : (value : Value) → ((members : BTreeMap (String Global) Value) → value ≡ v.Object members → ⊥) → (members : Members)
    → view value ≡ object members → ⊥
is_none value other members is = grind (arith, the_lemmas)

pub no_object : (value : Value) → ((members : BTreeMap (String Global) Value) → value ≡ v.Object members → ⊥)
    → (keys : List (List ℕ)) → AreUnknownKeys (view value) keys → ⊥
no_object value other keys are = let found = object_of (view value) keys are in is_none value other found.0 found.1

-- The keys of the members are those of the value.
pub keys_are : (value : Value) (members : BTreeMap (String Global) Value) (keys : List (List ℕ)) → value ≡ v.Object members
    → keys ≡ filter is_unknown (keys_of (members_view members.entries)) → AreUnknownKeys (view value) keys
keys_are value members keys is are = rw (is, view-Object members) are
