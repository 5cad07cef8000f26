-- For `told`, `tell_policy` and `seccompiler_filter_names`: texts that tell the fault of a policy's text.
use Rattle.std.proofs.Common.{◌≡◌, ℕ, List, Option, Some, None, IfSome, Result, Ok, Err, IfOk, String, Global, string_bytes}
use Rattle.std.proofs.Common.{◌++◌, ◌∙◌, ap, append_assoc, codes, refl, sym, subst, inl, inr}
use Rattle.serde_json.specs.declared.error.Error.{Error}
use Rattle.std.specs.Result.{result_ok}
use Rattle.std.specs.Prelude.{All}
use Rattle.std.proofs.lemmas.List.Elements.{All-get_or}
use Rattle.std.proofs.lemmas.Option.{get_or_from_slice_get, slice_get_within}
use Rattle.serde_json.specs.Data.{Data}
use Rattle.seccompiler.specs.JsonAnswers.{IsReadAs}
use Rattle.seccompiler.specs.declared.backend.TargetArch.{TargetArch}
use Rattle.seccompiler.specs.declared.json.error.JsonFrontendError.TheVariants.{SerdeJson}
use Rattle.seccomp_faults.specs.Checks.{IsAtOf}
use Rattle.seccomp_faults.specs.Faults.{IsFault}
use Rattle.seccomp_faults.specs.declared.fault.Cause.{Cause}
use Rattle.seccomp_faults.specs.declared.fault.Fault.{Fault as PolicyFault}
use Rattle.seccomp_faults.specs.declared.table.Form.TheVariants as form
use Rattle.seccompiler_c.specs.Messages.{HasFault, IsFaultText, TellsPolicyFault, fault_cause, IsTextOf, by_place, without_place, IsToldOf}
use Rattle.seccompiler_c.specs.declared.fault.Fault.{Fault}
use Rattle.seccompiler_c.specs.declared.fault.Fault.TheVariants.{Text}

-- What is reported on one architecture is reported on those for which P holds, if it does of that one.
pub told_on : (text : List ℕ) (fault : Fault) (old new : List ℕ) (P : TargetArch → Type 0) (target : TargetArch) → P target
    → TellsPolicyFault (λ t. t ≡ target) text fault old new → TellsPolicyFault P text fault old new
told_on text fault old new P target holds tells = record { said = tells.said; utf8 = tells.utf8; told = by tells.told; holds = tells.holds }
  where
    of : (told : List ℕ) → IsTextOf (λ t. t ≡ target) text fault told → IsTextOf P text fault told
    of told (by_place t same placed) = by_place t (subst P (sym same) holds) placed
    of told (without_place none own) = without_place none own

    by : IsToldOf (λ t. t ≡ target) text fault tells.said → IsToldOf P text fault tells.said
    by (inl shown) = inl (record { text = shown.text; holds = of shown.text shown.holds; shown = shown.shown })
    by (inr code) = inr code

-- The text that is found for a fault's kind tells the fault by its place.
pub placed_at : (target : TargetArch) (text : List ℕ) (fault : Fault) (cause : Cause) → fault_cause fault ≡ Some cause
    → (found : Option (String Global)) → IfSome found (λ told. HasFault target text cause)
    → IfSome found (λ told. IsTextOf (λ t. t ≡ target) text fault (string_bytes told))
placed_at target text fault cause kind None has = tt
placed_at target text fault cause kind (Some said) has = by_place target refl (record { cause = cause; kind = kind; placed = has })

-- The fault at a place of those that are found is one of the text's.
pub found_at : (target : TargetArch) (text : List ℕ) (cause : Cause) (all : List PolicyFault) (i : ℕ)
    → ((d : Data) → IsReadAs text d → All (IsFault target form.Policy d) all) → IsAtOf cause all i → HasFault target text cause
found_at target text cause all i each (own, at, kind) = (
  own,
  kind,
  λ d is.
      let P = IsFault target form.Policy d in
      subst P (get_or_from_slice_get all i own own at) (All-get_or P all i own (slice_get_within all i own at) (each d is)),
)

-- The text of a fault that has no place is its own.
pub own_text : (target : TargetArch) (text : List ℕ) (fault : Fault) → fault_cause fault ≡ None → (found : Option (String Global))
    → IfSome found (λ own. IsFaultText fault (string_bytes own))
    → IfSome found (λ told. IsTextOf (λ t. t ≡ target) text fault (string_bytes told))
own_text target text fault none (Some own) is = without_place none is
own_text target text fault none None is = tt

-- What holds of a text that is read.
pub of_ok : {E : Type 0} (P : String Global → Type 0) (read : Result (String Global) E) → IfOk read P → (text : String Global)
    → result_ok read ≡ Some text → P text
of_ok P (Ok own) is text same = let e : own ≡ text = cc in subst P e is
of_ok P (Err e) is text same = absurd cc

-- Further words may follow the text of JSON that can't be read.
pub more_words : (e : Error) (said more : List ℕ) → IsFaultText (Text (SerdeJson e)) said → IsFaultText (Text (SerdeJson e)) (said ++ more)
more_words e said more (words, is) = (
  words ++ more,
  ap (λ s. s ++ more) is ∙ append_assoc (codes "Error parsing Json: ") words more,
)
