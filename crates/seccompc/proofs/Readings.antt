-- What holds of what was read: of its bytes, and of the value that they are of.
use Rattle.std.proofs.Common.{ℕ, List, [], Option, Some, None, refl}
use Rattle.serde_json.specs.Data.{Data}
use Rattle.seccompiler.specs.JsonAnswers.{OfValue}
use Rattle.seccompiler.specs.Reads.{Reads}
use Rattle.seccompiler.specs.declared.backend.TargetArch.{TargetArch}
use Rattle.seccompc.specs.Faults.{OfPolicy}

-- What holds of all bytes holds of those that are read.
pub reads_some : (known : Option (List ℕ)) (P : List ℕ → Type 0) → ((bytes : List ℕ) → P bytes) → Reads known P
reads_some None P all = ([], tt, all [])
reads_some (Some bytes) P all = (bytes, refl, all bytes)

-- What holds of the value that was read holds of what is read.
pub of_value : (known : Option (List ℕ)) (P Q : Data → Type 0) (h : Reads known (λ text. OfValue text P)) → Q h.2.0
    → Reads known (λ text. OfValue text Q)
of_value known P Q h holds = (h.0, h.1, (h.2.0, h.2.1, holds))

-- What the value of a policy shows holds of the policy.
pub policy_shows : (arch : List ℕ) (known : Option (List ℕ)) (P Q : TargetArch → Data → Type 0)
    → ((target : TargetArch) (d : Data) → P target d → Q target d) → OfPolicy arch known P → OfPolicy arch known Q
policy_shows arch known P Q shows h = (h.0, h.1, of_value known (P h.0) (Q h.0) h.2 (shows h.0 h.2.2.0 h.2.2.2))
