-- For `is_of_profile`: no text of a policy is taken for a profile's.
use Rattle.std.proofs.Common.{◌≡◌, ◌∙◌, Bool, true, List, [], ◌∷◌, ℕ, Option, None, Some, codes, inl, inr, refl, subst, sym}
use Rattle.std.proofs.lemmas.Bool.{false≢true}
use Rattle.std.proofs.lemmas.Cmp.{nat_list_eq_equiv}
use Rattle.std.proofs.lemmas.Map.Views.{list_any-from_Contains}
use Rattle.std.specs.Str.{bytes_eq}
use Rattle.serde_json.specs.Data.{Data, string, object}
use Rattle.serde_json.specs.Find.{get}
use Rattle.seccompiler.specs.declared.backend.TargetArch.{TargetArch}
use Rattle.seccompiler.specs.JsonAnswers.{ArePoliciesOf}
use Rattle.seccompiler.specs.JsonShape.{Has, HasOnly, IsObject}
use Rattle.seccompiler.specs.Policy.{Filter}
use Rattle.seccomp_profiles.specs.ProfileText.{get_in, profile_at, profile_in}
use Rattle.seccomp_answers.specs.Kinds.{HasText, IsOfProfile, IsPolicyText, NamesProfile}
use Rattle.seccomp_answers.proofs.Readings.{one_value}

-- The names that a filter's object may have.
abbrev filter_names : List (List ℕ)
filter_names = codes "mismatch_action" ∷ codes "default_action" ∷ codes "match_action" ∷ codes "filter_action" ∷ codes "filter" ∷ []

module _ (arch : TargetArch) (find : List ℕ → Option Filter) (d : Data) (policy : ArePoliciesOf arch find d) where
  -- Under each name stands a filter.
  filter_under : (name : List ℕ) (value : Data) → Has d name value → HasOnly value filter_names
  filter_under name value has = (policy.each name value has).own.1.names

  -- It is an object, and so no text.
  no_text : (name : List ℕ) → HasText name d → ⊥
  no_text name names =
      let is_object : IsObject names.0 = (filter_under name names.0 names.1).is_object in
      let apart : object is_object.0 ≡ string names.2.0 = sym is_object.1 ∙ names.2.1 in
      absurd cc

  -- It has no `seccomp`.
  has_no_seccomp : (linux value : Data) → Has d (codes "linux") linux → get (codes "seccomp") linux ≡ Some value → ⊥
  has_no_seccomp linux value has there = false≢true (list_any-from_Contains {eq = bytes_eq} nat_list_eq_equiv (codes "seccomp") filter_names
      ((filter_under (codes "linux") linux has).no_other (codes "seccomp") value there))

  -- So no part of it is read as a profile.
  no_part : HasText (codes "defaultAction") (profile_in d) → ⊥
  no_part = by (get (codes "defaultAction") d) (get (codes "linux") d) refl
    where
      within : (linux : Data) (seccomp : Option Data) → get (codes "linux") d ≡ Some linux → get (codes "seccomp") linux ≡ seccomp
          → HasText (codes "defaultAction") (profile_at None seccomp d) → ⊥
      within linux None has there names = no_text (codes "defaultAction") names
      within linux (Some value) has there names = has_no_seccomp linux value has there

      by : (default linux : Option Data) → get (codes "linux") d ≡ linux
          → HasText (codes "defaultAction") (profile_at default (get_in (codes "seccomp") linux) d) → ⊥
      by (Some value) linux has names = no_text (codes "defaultAction") names
      by None None has names = no_text (codes "defaultAction") names
      by None (Some linux) has names = within linux (get (codes "seccomp") linux) has refl names

  -- Nor is it the configuration of a container.
  no_profile : NamesProfile d → ⊥
  no_profile (inl names) = no_part names
  no_profile (inr names) = no_text (codes "ociVersion") names

-- What stands under the names in a policy are filters, which are objects, and no texts.
no_policy : (arch : TargetArch) (text : List ℕ) → IsOfProfile text → IsPolicyText arch text → ⊥
no_policy arch text profile policy =
    let of_policy = policy.1 in
    let same = one_value text profile.value of_policy.0 profile.is_read of_policy.1.is_read in
    no_profile arch policy.0 of_policy.0 of_policy.2 (subst NamesProfile same profile.names)

-- As a test says it.
pub tests_no_policy : (text : List ℕ) (is : Bool) → (is ≡ true → IsOfProfile text) → is ≡ true
    → (arch : TargetArch) → IsPolicyText arch text → ⊥
tests_no_policy text is taken true_is arch = no_policy arch text (taken true_is)
