-- The sentences that tell refusals, and what is written of them into a caller's buffer.
use Rattle.std.specs.Prelude.{◌≡◌, ℕ, ◌+◌, ℤ, pos, ◌<◌, ◌⊎◌, List, ◌++◌, ◌∷◌, take, drop, length, Option, Some, None, codes, decimal}
use Rattle.std.specs.Str.{IsUtf8, IsCharBoundary}
use Rattle.serde_json.specs.Data.{Data}
use Rattle.seccompiler.specs.JsonAnswers.{IsReadAs}
use Rattle.seccompiler.specs.Texts.{json_text, IsJsonText}
use Rattle.seccompiler.specs.declared.backend.TargetArch.{TargetArch}
use Rattle.seccomp_tree.specs.Layouts.{filter_text}
use Rattle.seccomp_faults.specs.Checks.{frontend_cause}
use Rattle.seccomp_faults.specs.Faults.{IsFault, cause_of}
use Rattle.seccomp_faults.specs.declared.fault.Cause.{Cause}
use Rattle.seccomp_faults.specs.declared.fault.Fault.{Fault as PolicyFault}
use Rattle.seccomp_faults.specs.declared.table.Form.TheVariants as form
use Rattle.seccomp_text.specs.Readable.{readable}
use Rattle.seccomp_text.specs.declared.readable.TextKind.TheVariants.{Line}
use Rattle.seccompiler_c.specs.Codes.{fault_code, code_text, IsSentence}
use Rattle.seccompiler_c.specs.declared.fault.Fault.{Fault}
use Rattle.seccompiler_c.specs.declared.fault.Fault.TheVariants.{OutOfMemory, UnknownArchitecture, UnknownLayout, Text, NoFilter, NoIndex}
use Rattle.seccompiler_c.specs.declared.fault.Fault.TheVariants.{Filter, NoRoom}

-- The text of a fault, if all of it is known: that of JSON that can't be read ends in serde_json's own words.
abbrev pub fault_text : Fault → Option (List ℕ)
fault_text OutOfMemory = Some (codes "Out of memory.")
fault_text UnknownArchitecture = Some (codes "Unknown architecture.")
fault_text UnknownLayout = Some (codes "Unknown layout.")
fault_text (Text e) = json_text e
fault_text NoFilter = Some (codes "No filter has this name.")
fault_text NoIndex = Some (codes "No filter has this index.")
fault_text (Filter e) = Some (filter_text e)
fault_text (NoRoom n) = Some (codes "The array has too little room for the program: it has " ++ decimal n ++ codes " instructions.")

-- The text is that of the fault; of JSON that can't be read it is known how it begins. No text is empty.
abbrev pub IsFaultText : Fault → List ℕ → Type 0
IsFaultText (Text e) said = IsJsonText e said
IsFaultText fault said = fault_text fault ≡ Some said

-- The front of the buffer holds the front of a text, as many whole characters of it as there is room for with a byte 0
-- after them; this byte; and after it what it held.
pub record HoldsFront (said old new : List ℕ) : Type 0 where
  pub count : ℕ
  pub boundary : IsCharBoundary said count
  pub room : count < length old
  pub most : (more : ℕ) → count < more → more < length old → IsCharBoundary said more → ⊥
  pub written : new ≡ take count said ++ (0 ∷ drop (count + 1) old)

-- The buffer holds a text so, or it has no byte.
pub data HoldsMessage (said old new : List ℕ) : Type 0 where
  holds : HoldsFront said old new → HoldsMessage said old new
  no_byte : length old ≡ 0 → new ≡ old → HoldsMessage said old new

-- The kind of a fault, if it has a place in the policy.
abbrev pub fault_cause : Fault → Option Cause
fault_cause (Text e) = frontend_cause e
fault_cause fault = None

-- There is a fault of this kind, with its path, that the value of the policy's text has on the architecture.
abbrev pub HasFault : TargetArch → (text : List ℕ) → Cause → Type 0
HasFault target text cause =
    (own : PolicyFault) × (cause_of own.problem ≡ cause) × ((d : Data) → IsReadAs text d → IsFault target form.Policy d own)

-- The fault is of a kind that has a place, and the policy has one of this kind at a place.
pub record IsPlaced (target : TargetArch) (text : List ℕ) (fault : Fault) : Type 0 where
  pub cause : Cause
  pub kind : fault_cause fault ≡ Some cause
  pub placed : HasFault target text cause

-- The text tells the fault of a policy's text: a fault at its place, on an architecture of which P holds, if it is of a kind that has
-- one; and else it is the fault's own.
pub data IsTextOf (P : TargetArch → Type 0) (text : List ℕ) (fault : Fault) (told : List ℕ) : Type 0 where
  by_place : (target : TargetArch) → P target → IsPlaced target text fault → IsTextOf P text fault told
  without_place : fault_cause fault ≡ None → IsFaultText fault told → IsTextOf P text fault told

-- What is said is a text of which P holds, as people read it.
pub record IsShown (P : List ℕ → Type 0) (said : List ℕ) : Type 0 where
  pub text : List ℕ
  pub holds : P text
  pub shown : said ≡ readable Line text

-- The sentence is this text as people read it, or, if memory runs out for it, what the fault's code means.
abbrev pub IsToldOf : (TargetArch → Type 0) → List ℕ → Fault → List ℕ → Type 0
IsToldOf P text fault said = IsShown (IsTextOf P text fault) said ⊎ (said ≡ code_text (fault_code fault))

-- The buffer holds a sentence that tells the fault so.
pub record TellsPolicyFault (P : TargetArch → Type 0) (text : List ℕ) (fault : Fault) (old new : List ℕ) : Type 0 where
  pub said : List ℕ
  pub utf8 : IsUtf8 said
  pub told : IsToldOf P text fault said
  pub holds : HoldsMessage said old new

-- What seccompiler_strerror answers, and what the buffer then holds: the sentence of the number, and its length.
pub record AnswersSentence (number : ℤ) (old new : List ℕ) (answer : ℤ) : Type 0 where
  pub said : List ℕ
  pub sentence : IsSentence number said
  pub holds : HoldsMessage said old new
  pub told : answer ≡ pos (length said)
