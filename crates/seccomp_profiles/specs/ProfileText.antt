-- Which profile a text is, and what an error says of a text that is none.
use Rattle.std.specs.Prelude.{◌≡◌, ℕ, List, ◌++◌, Option, Some, None, codes, ⊤}
use Rattle.serde_json.specs.Data.{Data}
use Rattle.serde_json.specs.Errors.{IsMemory}
use Rattle.serde_json.specs.Find.{get}
use Rattle.seccompiler.specs.JsonAnswers.{IsReadAs}
use Rattle.seccomp_profiles.specs.ProfileShape.{IsProfile}
use Rattle.seccomp_profiles.specs.Types.{Profile}
use Rattle.seccomp_profiles.specs.declared.error.ProfileError.{ProfileError}
use Rattle.seccomp_profiles.specs.declared.error.ProfileError.TheVariants.{Json, NotAProfile, OutOfMemory}

-- What stands in a value under this name, if there is that value.
abbrev pub get_in : (name : List ℕ) → Option Data → Option Data
get_in name None = None
get_in name (Some d) = get name d

-- `linux.seccomp`, as the configuration of a container has it (OCI runtime specification).
abbrev pub seccomp_in : Data → Option Data
seccomp_in d = get_in (codes "seccomp") (get (codes "linux") d)

-- The part of a value that is read as a profile: the value itself if it has a default action; else that of a container's configuration,
-- if it is one.
abbrev pub profile_at : (default seccomp : Option Data) → Data → Data
profile_at None (Some found) d = found
profile_at default seccomp d = d

abbrev pub profile_in : Data → Data
profile_in d = profile_at (get (codes "defaultAction") d) (seccomp_in d) d

-- The text is read as a value whose part is this profile.
abbrev pub IsProfileText : List ℕ → Profile → Type 0
IsProfileText text p = (d : Data) × IsReadAs text d × IsProfile (profile_in d) p

-- The error says why the text is no profile: the bytes are no JSON text in UTF-8, or that part of its value is no profile. Out of memory
-- may come in place of both, and stands in no other error.
abbrev pub IsProfileFault : List ℕ → ProfileError → Type 0
IsProfileFault text (Json cause) = (IsMemory cause → ⊥) × ((d : Data) → IsReadAs text d → ⊥)
IsProfileFault text NotAProfile = (d : Data) × IsReadAs text d × ((p : Profile) → IsProfile (profile_in d) p → ⊥)
IsProfileFault text OutOfMemory = ⊤

-- The text of the error, if all of it is known: that of `Json` ends in serde_json's own words.
abbrev pub profile_error_text : ProfileError → Option (List ℕ)
profile_error_text (Json cause) = None
profile_error_text NotAProfile = Some (codes "The JSON value isn't a seccomp profile, or a part of it isn't supported.")
profile_error_text OutOfMemory = Some (codes "Out of memory.")

-- The text is that of the error; of `Json` it is known how it begins, and that further words may follow.
abbrev pub IsProfileErrorText : ProfileError → List ℕ → Type 0
IsProfileErrorText (Json cause) text = (words : List ℕ) × (text ≡ codes "Error parsing Json: " ++ words)
IsProfileErrorText error text = profile_error_text error ≡ Some text
