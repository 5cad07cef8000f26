-- Actions of a profile, and the numbers that stand beside them.
use Rattle.std.specs.Prelude.{◌≡◌, ℕ, ◌≤◌, List, [], ◌∷◌, Option, Some, None}
use Rattle.std.specs.Map.{lookup}
use Rattle.std.specs.Str.{bytes_eq}
use Rattle.serde_json.specs.Data.{Data, null, string}
use Rattle.serde_json.specs.Find.{get}
use Rattle.seccompiler.specs.JsonShape.{IsWhole, Under}
use Rattle.seccomp_entries.specs.declared.entry.Action.{Action}
use Rattle.seccomp_names.specs.Errnos.{error_names}
use Rattle.seccomp_profiles.specs.Shape.{IsAction}
use Rattle.seccomp_profiles.specs.Version.{IsNumberText}

-- The errno that a text gives: that of its name, or else the number that it writes, of 16 bits.
pub data NamesError (text : List ℕ) (n : ℕ) : Type 0 where
  by_name : lookup (bytes_eq text) error_names ≡ Some n → NamesError text n
  by_digits : lookup (bytes_eq text) error_names ≡ None → IsNumberText text n → n ≤ 65535 → NamesError text n

-- The text gives this errno; the empty one gives none.
abbrev pub IsNamedText : List ℕ → Option ℕ → Type 0
IsNamedText [] o = o ≡ None
IsNamedText (c ∷ text) (Some n) = NamesError (c ∷ text) n
IsNamedText (c ∷ text) None = ⊥

-- What stands there gives this errno as a text; nothing, null and the empty text give none.
abbrev pub IsNamedOr : Option Data → Option ℕ → Type 0
IsNamedOr None o = o ≡ None
IsNamedOr (Some null) o = o ≡ None
IsNamedOr (Some (string text)) o = IsNamedText text o
IsNamedOr (Some d) o = ⊥

-- What stands there is this whole number, of 16 bits; nothing, or null, is none.
abbrev pub IsNumberOr : Option Data → Option ℕ → Type 0
IsNumberOr None o = o ≡ None
IsNumberOr (Some null) o = o ≡ None
IsNumberOr (Some d) (Some n) = IsWhole 65535 d n
IsNumberOr (Some d) None = ⊥

-- The first, or else the second.
abbrev pub either : Option ℕ → Option ℕ → Option ℕ
either None o = o
either (Some n) o = Some n

-- What stands beside an action under two keys, as a number and by name: the name wins (Podman).
pub record IsBeside (d : Data) (number name : List ℕ) (o : Option ℕ) : Type 0 where
  pub own : Option ℕ
  pub named : Option ℕ
  pub is_own : IsNumberOr (get number d) own
  pub is_named : IsNamedOr (get name d) named
  pub is : o ≡ either named own

-- Under these keys of an object stand this action and what is beside it.
pub record IsActionUnder (d : Data) (action number name : List ℕ) (a : Action) : Type 0 where
  pub beside : Option ℕ
  pub is_beside : IsBeside d number name beside
  pub is : Under d action (λ v. IsAction v beside a)
