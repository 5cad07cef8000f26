-- What a profile lists as architectures: whether one is among them, so that libseccomp makes a program for it too, and the first that no
-- runtime knows.
use Rattle.std.specs.Prelude.{◌≡◌, ◌+◌, ◌⊎◌, Bool, false, List, [], ◌∷◌, ℕ, Option, Some, None, codes, if◌then◌else◌}
use Rattle.std.specs.List.{list_any}
use Rattle.std.specs.Str.{bytes_eq}
use Rattle.serde_json.specs.Data.{Data, Items, array, item, no_items, string}
use Rattle.serde_json.specs.Find.{get}

-- The items that stand there: none if no array does.
abbrev pub items_there : Option Data → Items
items_there (Some (array items)) = items
items_there other = no_items

-- One of the items is so.
abbrev pub HasItem : (Data → Type 0) → Items → Type 0
HasItem P no_items = ⊥
HasItem P (item d items) = P d ⊎ HasItem P items

abbrev pub IsNamed : (name : List ℕ) → Data → Type 0
IsNamed name d = d ≡ string name

-- It is an item of `archMap` that lists this architecture for x86_64.
abbrev pub MapsTo : (name : List ℕ) → Data → Type 0
MapsTo name d = (get (codes "architecture") d ≡ Some (string (codes "SCMP_ARCH_X86_64")))
    × HasItem (IsNamed name) (items_there (get (codes "subArchitectures") d))

-- The profile of this value lists this architecture, under `architectures` or `archMap`.
abbrev pub Lists : (name : List ℕ) → Data → Type 0
Lists name d =
    HasItem (IsNamed name) (items_there (get (codes "architectures") d)) ⊎ HasItem (MapsTo name) (items_there (get (codes "archMap") d))

-- The architectures of the OCI runtime specification (config-linux.md, seccomp).
abbrev pub known_architectures : List (List ℕ)
known_architectures = codes "SCMP_ARCH_X86" ∷ codes "SCMP_ARCH_X86_64" ∷ codes "SCMP_ARCH_X32" ∷ codes "SCMP_ARCH_ARM"
    ∷ codes "SCMP_ARCH_AARCH64" ∷ codes "SCMP_ARCH_MIPS" ∷ codes "SCMP_ARCH_MIPS64" ∷ codes "SCMP_ARCH_MIPS64N32"
    ∷ codes "SCMP_ARCH_MIPSEL" ∷ codes "SCMP_ARCH_MIPSEL64" ∷ codes "SCMP_ARCH_MIPSEL64N32" ∷ codes "SCMP_ARCH_PPC"
    ∷ codes "SCMP_ARCH_PPC64" ∷ codes "SCMP_ARCH_PPC64LE" ∷ codes "SCMP_ARCH_S390" ∷ codes "SCMP_ARCH_S390X"
    ∷ codes "SCMP_ARCH_PARISC" ∷ codes "SCMP_ARCH_PARISC64" ∷ codes "SCMP_ARCH_RISCV64" ∷ codes "SCMP_ARCH_LOONGARCH64"
    ∷ codes "SCMP_ARCH_M68K" ∷ codes "SCMP_ARCH_SH" ∷ codes "SCMP_ARCH_SHEB" ∷ []

abbrev pub is_known : (name : List ℕ) → Bool
is_known name = list_any (bytes_eq name) known_architectures

-- It is the name of one of them.
abbrev pub is_architecture : Data → Bool
is_architecture (string name) = is_known name
is_architecture d = false

-- The place of the first of the items that is none, if there is one.
abbrev pub first_unknown : ℕ → Items → Option ℕ
first_unknown place no_items = None
first_unknown place (item d items) = if is_architecture d then first_unknown (place + 1) items else Some place

-- That of the architectures of the profile of this value.
abbrev pub unknown_architecture : Data → Option ℕ
unknown_architecture d = first_unknown 0 (items_there (get (codes "architectures") d))
