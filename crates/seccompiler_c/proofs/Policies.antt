-- What the policies of a text are for the name that is asked for.
use Rattle.std.proofs.Common.{◌≡◌, ℕ, List, Option, Some, None, String, Global, string_bytes, refl, sym, ◌∙◌, subst}
use Rattle.std.specs.BTreeMap.{is_at}
use Rattle.std.specs.Map.{lookup}
use Rattle.std.specs.Str.{IsUtf8}
use Rattle.std.proofs.lemmas.Map.Entries.{place_from_lookup}
use Rattle.std.proofs.lemmas.Map.Text.{is_eq-slice_cmp, text_cmp}
use Rattle.std.proofs.lemmas.Slice.Eq.{bytes_eq-Decides}
use Rattle.std.proofs.lemmas.Str.{IsUtf8-string_bytes}
use Rattle.serde_json.specs.Data.{Data}
use Rattle.serde_json.specs.Find.{get}
use Rattle.seccompiler.specs.JsonAnswers.{OfValue, HasPolicy, HasSomePolicy, ArePoliciesOf, TellsFrontendFault}
use Rattle.seccompiler.specs.JsonFilters.{AreAll}
use Rattle.seccompiler.specs.JsonShape.{Under, Lacks}
use Rattle.seccompiler.specs.JsonSteps.{IsNoFailedRead}
use Rattle.seccompiler.specs.Policy.{Filter}
use Rattle.seccompiler.specs.declared.backend.TargetArch.{TargetArch}
use Rattle.seccompiler.specs.declared.json.error.JsonFrontendError.{JsonFrontendError}
use Rattle.seccompiler.specs.declared.json.error.JsonFrontendError.TheVariants as frontend
use Rattle.seccompiler_c.specs.Policies.{NamesPolicy, NamesNone, IsPolicyFault, from_frontend}

-- What the front end refuses of a text in memory is its first fault, or lack of memory.
pub text_refused : (target : TargetArch) (text name : List ℕ) (e : JsonFrontendError) → TellsFrontendFault target text e → IsNoFailedRead e
    → IsPolicyFault target text name (from_frontend e)
text_refused target text name (frontend.Read cause) tells none = absurd none
text_refused target text name frontend.OutOfMemory tells none = tt
text_refused target text name _ tells none = tells

-- The policies that are found by their names.
abbrev pub Find : Type 0
Find = List ℕ → Option Filter

module _ (target : TargetArch) (find : Find) (d : Data) (are : ArePoliciesOf target find d) where
  -- Each value has a policy.
  all_policies : AreAll (HasSomePolicy target) d
  all_policies = record { is_object = are.is_object; each = λ name value has. let own = are.each name value has in (own.found, own.own) }

  -- A policy that is found is that of the value of its name.
  found_value : (name : List ℕ) (policy : Filter) → find name ≡ Some policy → (o : Option Data) → get name d ≡ o
      → Under d name (λ value. (p : Filter) × HasPolicy target value p × (p ≡ policy))
  found_value name policy found None lacks = let none : Some policy ≡ None = sym found ∙ are.no_other name lacks in cc
  found_value name policy found (Some value) has =
      let own = are.each name value has in
      let same : own.found ≡ policy = let e : Some own.found ≡ Some policy = sym own.there ∙ found in cc in
      (value, has, (own.found, own.own, same))

  -- If no policy is found, the name is not there.
  found_nowhere : (name : List ℕ) → ((policy : Filter) → find name ≡ Some policy → ⊥) → (o : Option Data) → get name d ≡ o → Lacks d name
  found_nowhere name none None lacks = lacks
  found_nowhere name none (Some value) has = let own = are.each name value has in absurd (none own.found own.there)

-- The policy that is found is the text's.
pub names_policy : (target : TargetArch) (text name : List ℕ) (find : Find) (policy : Filter) → OfValue text (ArePoliciesOf target find)
    → find name ≡ Some policy → NamesPolicy target text name (λ p. p ≡ policy)
names_policy target text name find policy (d, is, are) found =
    (d, is, (all_policies target find d are, found_value target find d are name policy found (get name d) refl))

-- If none is found, the text has no filter of the name.
pub names_none : (target : TargetArch) (text name : List ℕ) (find : Find) → OfValue text (ArePoliciesOf target find)
    → ((policy : Filter) → find name ≡ Some policy → ⊥) → NamesNone target text name
names_none target text name find (d, is, are) none =
    (d, is, (all_policies target find d are, found_nowhere target find d are name none (get name d) refl))

-- A name under which something is found is UTF-8.
pub utf8_where_found : (name : List ℕ) (entries : List (String Global × Filter)) (policy : Filter)
    → lookup (is_at (text_cmp name)) entries ≡ Some policy → IsUtf8 name
utf8_where_found name entries policy found =
    let place = place_from_lookup (is_at (text_cmp name)) entries policy found in
    let same = (bytes_eq-Decides name (string_bytes place.1)).0 (sym (is_eq-slice_cmp name (string_bytes place.1)) ∙ place.3) in
    subst IsUtf8 (sym same) (IsUtf8-string_bytes place.1)
