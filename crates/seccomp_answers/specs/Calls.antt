-- What `record` gives: the record of a call.
use Rattle.std.specs.Prelude.{◌≡◌, ◌≢◌, ℕ, ◌^◌, ◌<◌, ◌==◌, if◌then◌else◌, All, Contains, List, [], ◌++◌, pos, Option, Some, None}
use Rattle.std.specs.Prelude.{string_bytes, ⊤}
use Rattle.std.specs.Int.{w32, w64, to_le_bytes}
use Rattle.std.specs.List.{flat_map}
use Rattle.seccompiler.specs.declared.backend.TargetArch.{TargetArch}
use Rattle.seccompiler.specs.Architecture.{audit_word, table_of}
use Rattle.seccompiler.specs.Machine.{word_at}
use Rattle.seccomp_profiles.specs.Abis.{audit_of, is_of}
use Rattle.seccomp_profiles.specs.Abis as abis
use Rattle.seccomp_profiles.specs.declared.types.Abi.{Abi}
use Rattle.seccomp_profiles.specs.declared.types.Abi.TheVariants.{Native}
use Rattle.seccomp_answers.specs.declared.error.AnswerError.{AnswerError}
use Rattle.seccomp_answers.specs.declared.error.AnswerError.TheVariants.{UnknownCall, Told, OutOfMemory}
use Rattle.seccomp_answers.specs.declared.calls.KnownCall.{KnownCall}
use Rattle.seccomp_answers.specs.Findings.{HasName}
use Rattle.seccomp_answers.specs.Numbers.{IsNumber}

-- The text is this call: its number, or, if it is no number, its name.
pub data IsCallOn (abi : Abi) (text : List ℕ) (n : ℕ) : Type 0 where
  numbered : IsNumber text n → n < 2 ^ 32 → IsCallOn abi text n
  named : ((m : ℕ) → IsNumber text m → ⊥) → abis.number_for abi text ≡ Some (pos n) → IsCallOn abi text n

-- Of an architecture's own calls.
abbrev pub IsCall : TargetArch → (text : List ℕ) → (n : ℕ) → Type 0
IsCall target = IsCallOn (Native target)

-- The number is that of the text's call on this architecture, and a name of a call there.
pub record IsKnownCall (call : List ℕ) (known : KnownCall) : Type 0 where
  pub is : IsCall known.target call known.number
  pub named : HasName (table_of known.target) known.number

-- These are the calls of the text on the architectures for which P holds. There is one at least, and none is left out.
pub record AreKnownCalls (P : TargetArch → Type 0) (call : List ℕ) (calls : List KnownCall) : Type 0 where
  pub each : All (λ (known : KnownCall). P known.target × IsKnownCall call known) calls
  pub complete : (known : KnownCall) → P known.target → IsKnownCall call known → Contains calls known
  pub some : calls ≢ []

-- The 64 bytes of a call's record: those of a `struct seccomp_data` (linux/seccomp.h), each number with its low byte
-- first. The instruction pointer is 0.
abbrev pub record_bytes : (arch : ℕ) → ℕ → List ℕ → List ℕ
record_bytes arch n arguments = to_le_bytes w32 n ++ to_le_bytes w32 arch ++ to_le_bytes w64 0 ++ flat_map (to_le_bytes w64) arguments

-- The bytes are those of the record of the text's call.
abbrev pub IsRecordOn : Abi → List ℕ → List ℕ → List ℕ → Type 0
IsRecordOn abi call arguments bytes = (n : ℕ) × IsCallOn abi call n × (bytes ≡ record_bytes (audit_of abi) n arguments)

abbrev pub IsRecordOf : TargetArch → List ℕ → List ℕ → List ℕ → Type 0
IsRecordOf target = IsRecordOn (Native target)

-- The number of a record's call, if the record is of the architecture.
abbrev pub number_for : TargetArch → (r : List ℕ) → Option ℕ
number_for target r = if word_at r 4 == audit_word target then Some (word_at r 0) else None

-- The number of a record's call, if it is one of these.
abbrev pub number_on : Abi → (r : List ℕ) → Option ℕ
number_on abi r = if is_of abi r then Some (word_at r 0) else None

-- The error tells that the text is none of these calls, or is want of memory.
abbrev pub IsUncalledOf : Abi → List ℕ → AnswerError → Type 0
IsUncalledOf abi call (UnknownCall text of) = (of ≡ abi) × (string_bytes text ≡ call) × ((n : ℕ) → IsCallOn abi call n → ⊥)
IsUncalledOf abi call OutOfMemory = ⊤
IsUncalledOf abi call e = ⊥

abbrev pub IsUncalled : TargetArch → List ℕ → AnswerError → Type 0
IsUncalled target = IsUncalledOf (Native target)

-- The error tells that the text is no call that has a name, on the architectures for which P holds, or is lack of memory.
abbrev pub IsUnknownCall : (TargetArch → Type 0) → (call : List ℕ) → AnswerError → Type 0
IsUnknownCall P call (Told text) = (known : KnownCall) → P known.target → IsKnownCall call known → ⊥
IsUnknownCall P call OutOfMemory = ⊤
IsUnknownCall P call e = ⊥
