-- What is given: which bytes are a program's, and which texts are those of profiles of container runtimes.
use Rattle.std.specs.Prelude.{◌≡◌, ℕ, ◌≤◌, ◌⊎◌, Bool, true, false, List, Option, None, Some, codes, drop, slice_get, ⊤}
use Rattle.std.specs.Char.{is_ascii_whitespace}
use Rattle.std.specs.List.{prefix_len}
use Rattle.memchr.specs.Find.{OccursAt}
use Rattle.serde_json.specs.Data.{Data, string}
use Rattle.serde_json.specs.Find.{get}
use Rattle.seccompiler.specs.declared.backend.TargetArch.{TargetArch}
use Rattle.seccompiler.specs.JsonAnswers.{ArePoliciesOf, IsReadAs, OfValue}
use Rattle.seccompiler.specs.JsonShape.{Under}
use Rattle.seccompiler.specs.Policy.{Filter}
use Rattle.seccomp_profiles.specs.ProfileText.{profile_in, seccomp_in}
use Rattle.seccomp_answers.specs.declared.kind.Reading.{Reading}
use Rattle.seccomp_answers.specs.declared.kind.Subject.{Subject}
use Rattle.seccomp_answers.specs.declared.kind.Subject.TheVariants as subject

-- The bytes stand somewhere in the text.
abbrev pub StandsIn : (part text : List ℕ) → Type 0
StandsIn part text = (place : ℕ) × OccursAt text part place

-- The value is a text.
abbrev pub IsText : Data → Type 0
IsText d = (text : List ℕ) × (d ≡ string text)

-- The value is an object with a text under this name. No policy is: what stands under its names are filters, which are objects.
abbrev pub HasText : List ℕ → Data → Type 0
HasText name d = Under d name IsText

-- The part that is read as a profile names its default action; or the value is the configuration of a container, which names its version
-- (OCI runtime specification), with a profile or without one.
abbrev pub NamesProfile : Data → Type 0
NamesProfile d = HasText (codes "defaultAction") (profile_in d) ⊎ HasText (codes "ociVersion") d

-- One of the keys stands in the text, as they are mostly written.
abbrev pub HasKey : List ℕ → Type 0
HasKey text = StandsIn (codes "\"defaultAction\"") text ⊎ StandsIn (codes "\"ociVersion\"") text

-- The text is taken for a profile's, or for a configuration's.
pub record IsOfProfile (text : List ℕ) : Type 0 where
  pub key : HasKey text
  pub value : Data
  pub is_read : IsReadAs text value
  pub names : NamesProfile value

-- The value is the configuration of a container without a profile.
pub record IsBare (d : Data) : Type 0 where
  pub version : HasText (codes "ociVersion") d
  pub no_action : get (codes "defaultAction") d ≡ None
  pub no_profile : seccomp_in d ≡ None

-- So is the value of the text.
abbrev pub LacksProfile : List ℕ → Type 0
LacksProfile text = (d : Data) × IsReadAs text d × IsBare d

-- The text is of a policy on this architecture.
abbrev pub IsPolicyText : TargetArch → List ℕ → Type 0
IsPolicyText arch text = (find : List ℕ → Option Filter) × OfValue text (ArePoliciesOf arch find)

-- What stands behind the white space that a text begins with.
abbrev pub behind_space : List ℕ → List ℕ
behind_space text = drop (prefix_len is_ascii_whitespace text) text

-- A digit, a brace or a comment begins with this byte.
abbrev pub BeginsInitializer : ℕ → Type 0
BeginsInitializer byte = ((0x30 ≤ byte) × (byte ≤ 0x39)) ⊎ ((byte ≡ 0x7b) ⊎ (byte ≡ 0x2f))

-- The text begins as C's initializers of instructions: with a brace and then, white space aside, with a digit, a brace or a
-- comment. No text of JSON does.
pub record BeginsAsInitializers (text : List ℕ) : Type 0 where
  pub brace : slice_get (behind_space text) 0 ≡ Some 0x7b
  pub next : ℕ
  pub there : slice_get (behind_space (drop 1 (behind_space text))) 0 ≡ Some next
  pub begins : BeginsInitializer next

-- What is given begins as a program: as a text of initializers, or as bytes of which the second one, the high byte of the first
-- instruction's code, is 0.
abbrev pub BeginsAsProgram : List ℕ → Type 0
BeginsAsProgram given = BeginsAsInitializers given ⊎ (slice_get given 1 ≡ Some 0)

-- The text is a profile's: all are, or it is taken for one's.
abbrev pub IsReadAsProfile : (of_profiles : Bool) → List ℕ → Type 0
IsReadAsProfile true text = ⊤
IsReadAsProfile false text = IsOfProfile text

-- The bytes are taken as this: as a program if they begin as one; else as a profile in the container that is given, if they
-- are read as one; else as a policy.
abbrev pub IsTakenAs : Reading → List ℕ → Subject → Type 0
IsTakenAs reading bytes subject.Program = BeginsAsProgram bytes
IsTakenAs reading bytes (subject.Profile given) =
    (BeginsAsProgram bytes → ⊥) × IsReadAsProfile reading.of_profiles bytes × (given.now ≡ reading.container)
IsTakenAs reading bytes subject.Policy = (BeginsAsProgram bytes → ⊥) × (IsReadAsProfile reading.of_profiles bytes → ⊥)
