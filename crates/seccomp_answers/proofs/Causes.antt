-- For the causes of errors: what a layer below refuses, as an error of the tool.
use Rattle.std.proofs.Common.{◌≡◌, ℕ, ℤ, pos, negsuc, ◌<◌, ◌^◌, List, Option}
use Rattle.std.proofs.Common.{IfSome, All, Some, ap, inl, inr, string_bytes, refl, subst, sym, ◌∙◌, arith}
use Rattle.std.proofs.lemmas.Int.{ints}
use Rattle.std.proofs.lemmas.List.Elements.{All-contains}
use Rattle.std.proofs.lemmas.Option.{slice_get_within}
use Rattle.serde_json.specs.Data.{Data}
use Rattle.seccompiler.specs.Compiled.{IsLeastUnfit, numbers_of}
use Rattle.seccompiler.specs.Errors.{IsNoMemoryInFrontend, from_backend, from_frontend}
use Rattle.seccompiler.specs.JsonAnswers.{ArePoliciesOf, IsValueOf, OfValue, TellsFrontendFault}
use Rattle.seccompiler.specs.JsonFilters.{AreFound}
use Rattle.seccompiler.specs.JsonPrograms.{TellsFirstFault}
use Rattle.seccompiler.specs.JsonSteps.{IsNoFailedRead, IsShapeRefusal}
use Rattle.seccompiler.specs.Policy.{Filter}
use Rattle.seccompiler.specs.SyscallTable.{IsTableNumber}
use Rattle.seccompiler.specs.declared.backend.BackendError.{BackendError}
use Rattle.seccompiler.specs.declared.backend.BackendError.TheVariants as backend
use Rattle.seccompiler.specs.declared.backend.TargetArch.{TargetArch}
use Rattle.seccompiler.specs.declared.error.Error.TheVariants as library
use Rattle.seccompiler.specs.declared.json.error.JsonFrontendError.{JsonFrontendError}
use Rattle.seccompiler.specs.declared.json.error.JsonFrontendError.TheVariants as frontend
use Rattle.seccomp_tree.specs.Layouts.{IsFittingRefusal, IsRefusalIn}
use Rattle.seccomp_tree.specs.declared.error.FilterError.{FilterError}
use Rattle.seccomp_tree.specs.declared.error.FilterError.TheVariants as filter
use Rattle.seccomp_tree.specs.declared.layout.Layout.{Layout}
use Rattle.seccomp_tree.specs.declared.layout.Layout.TheVariants.{Linear, Tree}
use Rattle.seccomp_faults.specs.Checks.{IsRejection, IsRejectionOf, cause_told}
use Rattle.seccomp_faults.specs.declared.policy.Rejection.{Rejection}
use Rattle.seccomp_faults.specs.declared.policy.Rejection.TheVariants as rejection
use Rattle.seccomp_answers.proofs.Found.{nowhere, there}
use Rattle.seccomp_answers.specs.Check.{IsRefusal as IsTextRefusal}
use Rattle.seccomp_answers.specs.Errors.{IsToldAs, from_filter, from_library}
use Rattle.seccomp_answers.specs.declared.error.AnswerError.{AnswerError}
use Rattle.seccomp_answers.specs.declared.error.AnswerError.TheVariants.{Library, NoFilter, OutOfMemory, Placed, Unchosen}
use Rattle.seccomp_answers.specs.Sides.{Policies}
use Rattle.seccomp_answers.specs.Causes.{IsRefusedPolicy, IsUnpicked, of_name, AreUncompiledIn, IsMissing, IsMissingIn}
use Rattle.seccomp_answers.specs.Causes.{IsUnchosen, IsUnchosenIn, IsUnfitAmong, IsUnread, TellsLarge, TellsUnfitting}
use Rattle.seccomp_answers.specs.Causes.{too_large, unread}

-- ---- texts

-- What the front end refuses a text for.
pub unread_for : (target : TargetArch) (text : List ℕ) (e : JsonFrontendError) → TellsFrontendFault target text e → IsNoFailedRead e
    → IsNoMemoryInFrontend e → IsUnread target text (from_library (from_frontend e))
unread_for target text frontend.OutOfMemory first reader memory = tt
unread_for target text e first reader memory = record { memory = λ same. cc; none_inside = memory; no_reader = reader; first = first }

-- A rejection as an error.
pub told_refusal : (target : TargetArch) (text : List ℕ) (r : Rejection) (e : AnswerError) → IsRejection target text r → IsToldAs r e
    → IsTextRefusal target text e
told_refusal target text (rejection.Library own) e is same = subst (IsTextRefusal target text) (sym same) is
told_refusal target text (rejection.Placed first faults) e is (inl same) = subst (IsTextRefusal target text) (sym same) tt
told_refusal target text (rejection.Placed first faults) e is (inr (told, same, within)) =
    subst (IsTextRefusal target text) (sym same) (record {
      first = first;
      placed = is;
      there = within (slice_get_within faults.items first is.at.0 is.at.1);
    })
told_refusal target text rejection.OutOfMemory e is same = subst (IsTextRefusal target text) (sym same) tt

-- The same of the front end's refusal.
told_unread : (target : TargetArch) (text : List ℕ) (own : JsonFrontendError) (r : Rejection) (e : AnswerError)
    → TellsFrontendFault target text own → IsNoFailedRead own → IsNoMemoryInFrontend own
    → IsRejectionOf target text (from_frontend own) r → IsToldAs r e → IsUnread target text e
told_unread target text frontend.OutOfMemory (rejection.Library refusal) e first reader memory of same = absurd (of.1 refl)
told_unread target text own (rejection.Library refusal) e first reader memory of same =
    subst (IsUnread target text) (sym (same ∙ ap Library of.0)) (unread_for target text own first reader memory)
told_unread target text own (rejection.Placed first faults) e told reader memory of (inl same) =
    subst (IsUnread target text) (sym same) tt
told_unread target text frontend.OutOfMemory (rejection.Placed first faults) e told reader memory of (inr is) =
    let kind = subst (λ refusal. cause_told refusal ≡ Some of.0.cause) of.1 of.0.kind in cc
told_unread target text own (rejection.Placed first faults) e told reader memory of (inr (place, same, within)) =
    subst (IsUnread target text) (sym same) (record {
      are = record {
        first = first;
        placed = of.0;
        there = within (slice_get_within faults.items first of.0.at.0 of.0.at.1);
      };
      own = own;
      of_front = of.1;
    })
told_unread target text own rejection.OutOfMemory e first reader memory of same = subst (IsUnread target text) (sym same) tt

pub told_front : (target : TargetArch) (text : List ℕ) (own : JsonFrontendError) (r : Rejection) (e : AnswerError)
    → TellsFrontendFault target text own → IsNoFailedRead own → IsNoMemoryInFrontend own
    → (TellsFirstFault target text (from_frontend own) → IsRejectionOf target text (from_frontend own) r) → IsToldAs r e
    → IsUnread target text e
told_front target text frontend.OutOfMemory r e first reader memory of same =
    told_unread target text frontend.OutOfMemory r e first reader memory (of tt) same
told_front target text own r e first reader memory of same = told_unread target text own r e first reader memory (of first) same

-- The refusal of a value's shape tells the fault of its text.
pub told_shape : (target : TargetArch) (text : List ℕ) (d : Data) → IsValueOf text d → (e : JsonFrontendError) → IsShapeRefusal d e
    → TellsFrontendFault target text e × IsNoFailedRead e × IsNoMemoryInFrontend e
told_shape target text d is frontend.NotAnObject refused = ((d, is, refused), tt, tt)
told_shape target text d is (frontend.Shape name) refused = ((d, is, refused), tt, tt)
told_shape target text d is frontend.OutOfMemory refused = (tt, tt, tt)
told_shape target text d is e refused = absurd refused

-- What the front end refuses is refused by the library as a whole.
pub refused_unread : (target : TargetArch) (text : List ℕ) (e : AnswerError) → IsUnread target text e → IsTextRefusal target text e
refused_unread target text (Library (library.JsonFrontend own)) is =
    record { memory = λ same. cc; none_inside = (is.memory, is.none_inside); no_reader = is.no_reader; first = is.first }
refused_unread target text (Placed told faults) is = is.are
refused_unread target text OutOfMemory is = tt
refused_unread target text e is = absurd is

-- ---- names

module _ {X : Type 0} (P : Data → X → Type 0) (text : List ℕ) (find : List ℕ → Option X) (read : OfValue text (AreFound P find))
    (asked : Option (List ℕ)) where
  -- Nothing is found under a name that the text lacks.
  pub missing_in : (e : AnswerError) → IsMissingIn asked find e → IsMissing asked text e
  missing_in (NoFilter name) is = (is.0, (read.0, read.1, nowhere P find read.0 read.2 (string_bytes name) is.1))
  missing_in OutOfMemory is = tt
  missing_in e is = is

  pub unchosen_in : (e : AnswerError) → IsUnchosenIn asked find e → IsUnchosen asked text e
  unchosen_in (Unchosen names) is = (
    is.0,
    (
      read.0,
      read.1,
      λ name only.
          let own = read.2.each name only.value only.there in
          is.1 name (record {
            value = own.found;
            there = own.there;
            only = λ other x found. let at = there P find read.0 read.2 other x found in only.only other at.0 at.1;
          }),
    ),
  )
  unchosen_in (NoFilter name) is = missing_in (NoFilter name) is
  unchosen_in OutOfMemory is = tt
  unchosen_in e is = is

-- ---- filters

-- What isn't picked is refused, whatever is too large.
pub unpicked : (target : TargetArch) (asked : Option (List ℕ)) (text : List ℕ) (Large : AnswerError → Type 0) (e : AnswerError)
    → IsUnpicked target asked text e → IsRefusedPolicy target text (IsUnchosen asked text) Large e
unpicked target asked text Large e (inl is) = unread is
unpicked target asked text Large e (inr is) = of_name is

-- A table's number is a call number.
never_unfit : (numbers : List ℤ) (n : ℤ) → All IsTableNumber numbers → IsLeastUnfit numbers n → ⊥
never_unfit numbers n all is = by n (All-contains IsTableNumber numbers n all is.among) is.unfit
  where
    by : (n : ℤ) → IsTableNumber n → (((k : ℕ) × (n ≡ pos k) × (k < 2 ^ 32)) → ⊥) → ⊥
    by (pos k) fits unfit = unfit (k, refl, grind (arith, ints, fits.1))
    by (negsuc k) fits unfit = absurd (grind (arith, ints, fits.0))

-- A filter whose numbers are a table's is refused for its size alone, or for want of memory.
told_large : (layout : Layout) (f : Filter) → ((n : ℤ) → IsLeastUnfit (numbers_of f.chains) n → ⊥) → (cause : FilterError)
    → IsRefusalIn layout f cause → TellsLarge layout f (from_filter cause)
told_large Linear f fits (filter.InvalidSyscallNumber n) is = absurd (fits n is)
told_large Tree f fits (filter.InvalidSyscallNumber n) is = absurd (fits n is)
told_large Linear f fits (filter.FilterTooLarge n) is = is
told_large Tree f fits (filter.FilterTooLarge n) is = absurd is
told_large Linear f fits filter.TreeTooLarge is = absurd is
told_large Tree f fits filter.TreeTooLarge is = is
told_large Linear f fits filter.OutOfMemory is = tt
told_large Tree f fits filter.OutOfMemory is = tt

pub told_unfitting : (f : Filter) → ((n : ℤ) → IsLeastUnfit (numbers_of f.chains) n → ⊥) → (cause : BackendError) → IsFittingRefusal f cause
    → TellsUnfitting f (from_library (from_backend cause))
told_unfitting f fits (backend.FilterTooLarge n) is = is
told_unfitting f fits (backend.InvalidSyscallNumber n) is = absurd (fits n is)
told_unfitting f fits backend.OutOfMemory is = tt
told_unfitting f fits _ is = absurd is

-- What a filter is refused for that is found.
pub unfit_among : (layout : Layout) (find : Policies) (name : List ℕ) (f : Filter) → find name ≡ Some f → (cause : FilterError)
    → IsRefusalIn layout f cause → IsUnfitAmong layout find cause
unfit_among layout find name f there filter.OutOfMemory is = tt
unfit_among layout find name f there cause is = (name, f, there, is)

-- ---- the filters of a text

module _ (target : TargetArch) (text : List ℕ) (find : Policies) (of_text : OfValue text (ArePoliciesOf target find))
    (numbers : (name : List ℕ) → IfSome (find name) (λ f. All IsTableNumber (numbers_of f.chains))) where
  -- The numbers of one that is found are a table's, and so fit.
  pub found_fits : (name : List ℕ) (f : Filter) → find name ≡ Some f → (n : ℤ) → IsLeastUnfit (numbers_of f.chains) n → ⊥
  found_fits name f there n unfit = never_unfit (numbers_of f.chains) n (subst (λ (o : Option Filter). IfSome o (λ g. All IsTableNumber
      (numbers_of g.chains))) there (numbers name)) unfit

  -- One is refused in a layout.
  pub told_among : (layout : Layout) (asked : Option (List ℕ)) (cause : FilterError) → IsUnfitAmong layout find cause
      → AreUncompiledIn target layout asked text (from_filter cause)
  told_among layout asked filter.OutOfMemory is = unread tt
  told_among layout asked cause (name, f, there, is) = too_large (
    f,
    record {
      filters = find;
      of_text = of_text;
      name = name;
      there = there;
    },
    told_large layout f (found_fits name f there) cause is,
  )
