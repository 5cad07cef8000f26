-- Which JSON values are profiles and their entries (OCI runtime specification, `linux.seccomp`, and what Docker and Podman
-- add to it). Nothing but the forms given here is one.
use Rattle.std.specs.Prelude.{◌≡◌, ◌↔◌, ℕ, Bool, true, false, not, IsTrue, List, [], ◌∷◌, Option, Some, None, codes}
use Rattle.std.specs.List.{filter, list_any}
use Rattle.std.specs.Str.{bytes_eq}
use Rattle.serde_json.specs.Data.{Data, null, string, object, Items, no_items, Members, member, no_members}
use Rattle.serde_json.specs.Find.{get}
use Rattle.seccompiler.specs.JsonShape.{HasOnly, IsCommented}
use Rattle.seccomp_profiles.specs.Actions.{IsActionUnder}
use Rattle.seccomp_profiles.specs.Listed.{Lists, unknown_architecture}
use Rattle.seccomp_profiles.specs.Shape.{IsArgument, IsFlag, IsListed, IsText, items_of}
use Rattle.seccomp_profiles.specs.Types.{Criteria, Entry, Profile}
use Rattle.seccomp_profiles.specs.Version.{IsKernelOr}

-- What stands there is a list of whatever items, or nothing, or null.
abbrev pub IsList : Option Data → Type 0
IsList o = (items : Items) × (items_of o ≡ Some items)

-- The names of an entry stand under `names`, as a list; or one stands under `name`, beside no others. An empty name is none.
abbrev pub AreNames : Option Data → Option Data → List (List ℕ) → Type 0
AreNames names None texts = IsListed IsText names texts
AreNames names (Some null) texts = IsListed IsText names texts
AreNames names (Some (string [])) texts = IsListed IsText names texts
AreNames names (Some (string (c ∷ name))) texts = (items_of names ≡ Some no_items) × (texts ≡ (c ∷ name) ∷ [])
AreNames names (Some _) texts = ⊥

-- The value is these criteria: an object of `caps`, `arches` and `minKernel`, if it likes.
pub record AreCriteria (d : Data) (c : Criteria) : Type 0 where
  pub names : HasOnly d (codes "caps" ∷ codes "arches" ∷ codes "minKernel" ∷ [])
  pub caps : IsListed IsText (get (codes "caps") d) c.caps
  pub arches : IsListed IsText (get (codes "arches") d) c.arches
  pub min_kernel : IsKernelOr (get (codes "minKernel") d) c.min_kernel

-- What stands there is these criteria: empty ones if nothing stands there, or null.
abbrev pub AreCriteriaOr : Option Data → Criteria → Type 0
AreCriteriaOr None c = (c.caps ≡ []) × (c.arches ≡ []) × (c.min_kernel ≡ None)
AreCriteriaOr (Some null) c = (c.caps ≡ []) × (c.arches ≡ []) × (c.min_kernel ≡ None)
AreCriteriaOr (Some d) c = AreCriteria d c

-- The value is this entry: an object of `action`, `names` or `name`, and, if it likes, `errnoRet`, `errno`, `args`, `includes`,
-- `excludes` and `comment`.
pub record IsEntry (d : Data) (e : Entry) : Type 0 where
  pub only : HasOnly d (codes "names" ∷ codes "name" ∷ codes "action" ∷ codes "errnoRet" ∷ codes "errno" ∷ codes "args"
      ∷ codes "includes" ∷ codes "excludes" ∷ codes "comment" ∷ [])
  pub comment : IsCommented d
  pub names : AreNames (get (codes "names") d) (get (codes "name") d) e.names
  pub action : IsActionUnder d (codes "action") (codes "errnoRet") (codes "errno") e.action
  pub args : IsListed IsArgument (get (codes "args") d) e.args
  pub includes : AreCriteriaOr (get (codes "includes") d) e.includes
  pub excludes : AreCriteriaOr (get (codes "excludes") d) e.excludes

-- A text stands there that isn't empty.
abbrev pub is_filled : Option Data → Bool
is_filled (Some (string (c ∷ text))) = true
is_filled other = false

-- The keys of an object, in its order.
abbrev pub keys_of : Members → List (List ℕ)
keys_of no_members = []
keys_of (member key d others) = key ∷ keys_of others

-- The keys that a profile has for Docker, Podman or a runtime, and two that say nothing.
abbrev pub profile_keys : List (List ℕ)
profile_keys = codes "defaultAction" ∷ codes "defaultErrnoRet" ∷ codes "defaultErrno" ∷ codes "architectures" ∷ codes "archMap"
    ∷ codes "flags" ∷ codes "syscalls" ∷ codes "listenerPath" ∷ codes "listenerMetadata" ∷ codes "$schema" ∷ codes "comment" ∷ []

-- No profile has this key.
abbrev pub is_unknown : List ℕ → Bool
is_unknown key = not (list_any (bytes_eq key) profile_keys)

-- The value is an object, and these are all its keys that no profile has, in its order.
abbrev pub AreUnknownKeys : Data → List (List ℕ) → Type 0
AreUnknownKeys (object members) keys = keys ≡ filter is_unknown (keys_of members)
AreUnknownKeys d keys = ⊥

-- The value is this profile: an object of `defaultAction` and, if it likes, `defaultErrnoRet`, `defaultErrno`, `flags` and `syscalls`.
-- `architectures` and `archMap`, which concern other architectures, are lists, if they are there; that they list x86, or what no runtime
-- knows, counts. So does whether a supervisor listens. Other keys say nothing; the profile has those that are unknown.
pub record IsProfile (d : Data) (p : Profile) : Type 0 where
  pub architectures : IsList (get (codes "architectures") d)
  pub arch_map : IsList (get (codes "archMap") d)
  pub default : IsActionUnder d (codes "defaultAction") (codes "defaultErrnoRet") (codes "defaultErrno") p.default
  pub flags : IsListed IsFlag (get (codes "flags") d) p.flags
  pub entries : IsListed IsEntry (get (codes "syscalls") d) p.entries
  pub lists_x86 : IsTrue p.lists_x86 ↔ Lists (codes "SCMP_ARCH_X86") d
  pub lists_x32 : IsTrue p.lists_x32 ↔ Lists (codes "SCMP_ARCH_X32") d
  pub unknown_architecture : p.unknown_architecture ≡ unknown_architecture d
  pub has_listener : p.has_listener ≡ is_filled (get (codes "listenerPath") d)
  pub unknown_keys : AreUnknownKeys d p.unknown_keys
