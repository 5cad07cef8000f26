-- Why an engine gives no answer: each error has its cause in what is given. Lack of memory may come in place of all.
use Rattle.std.specs.Prelude.{◌≡◌, ◌≢◌, ℕ, ◌⊎◌, ◌&&◌, Bool, true, false, List, Option, Some, None, Vec, slice_get}
use Rattle.std.specs.Prelude.{string_bytes, take, ⊤}
use Rattle.std.specs.List.{AllZip}
use Rattle.std.specs.declared.alloc.Global.{Global}
use Rattle.seccompiler.specs.Compiled.{IsTooLarge}
use Rattle.seccompiler.specs.Errors.{IsNoMemoryInFrontend, from_backend}
use Rattle.seccompiler.specs.JsonAnswers.{ArePoliciesOf, OfValue, TellsFrontendFault}
use Rattle.seccompiler.specs.JsonShape.{Lacks}
use Rattle.seccompiler.specs.JsonSteps.{IsNoFailedRead}
use Rattle.seccompiler.specs.Policy.{Filter}
use Rattle.seccompiler.specs.declared.backend.BackendError.{BackendError}
use Rattle.seccompiler.specs.declared.backend.BackendError.TheVariants as backend
use Rattle.seccompiler.specs.declared.backend.TargetArch.{TargetArch}
use Rattle.seccompiler.specs.declared.bpf.sock_filter.{sock_filter}
use Rattle.seccompiler.specs.declared.error.Error.TheVariants as library
use Rattle.seccompiler.specs.declared.json.error.JsonFrontendError.{JsonFrontendError}
use Rattle.seccompiler.specs.declared.json.error.JsonFrontendError.TheVariants as frontend
use Rattle.seccomp_tree.specs.Layouts.{IsFittingRefusal, IsRefusalIn, IsTreeTooLarge}
use Rattle.seccomp_tree.specs.declared.error.FilterError.{FilterError}
use Rattle.seccomp_tree.specs.declared.error.FilterError.TheVariants as filter
use Rattle.seccomp_tree.specs.declared.layout.Layout.{Layout}
use Rattle.seccomp_tree.specs.declared.layout.Layout.TheVariants.{Linear, Tree}
use Rattle.seccomp_profiles.specs.CompiledProfile.{IsCompileFault}
use Rattle.seccomp_profiles.specs.Types.{Container}
use Rattle.seccomp_profiles.specs.declared.compiled.CompileError.TheVariants as fault
use Rattle.seccomp_faults.specs.Checks.{AreOfProfile}
use Rattle.seccomp_faults.specs.declared.fault.Fault.{Fault}
use Rattle.seccomp_answers.specs.Check.{AreTold, IsRefusal}
use Rattle.seccomp_answers.specs.Chosen.{HasOnlyName, IsOnly, text_of}
use Rattle.seccomp_answers.specs.Diff.{is_whole}
use Rattle.seccomp_answers.specs.Errors.{IsAtPath, IsOfSecond, from_library}
use Rattle.seccomp_answers.specs.Kinds.{IsTakenAs, LacksProfile}
use Rattle.seccomp_answers.specs.Programs.{IsRefusedProgram}
use Rattle.seccomp_answers.specs.Sides.{IsFilterOf, IsSideOf, Policies}
use Rattle.seccomp_answers.specs.declared.error.AnswerError.{AnswerError}
use Rattle.seccomp_answers.specs.declared.error.AnswerError.TheVariants.{Library, NoFilter, NoProfile, OutOfMemory, Placed, Profile}
use Rattle.seccomp_answers.specs.declared.error.AnswerError.TheVariants.{TreeTooLarge, Unchosen}
use Rattle.seccomp_answers.specs.declared.kind.Reading.{Reading}
use Rattle.seccomp_answers.specs.declared.kind.Subject.{Subject}
use Rattle.seccomp_answers.specs.declared.kind.Subject.TheVariants as subject
use Rattle.seccomp_answers.specs.declared.sides.Side.{Side}
use Rattle.seccomp_answers.specs.declared.layers.Layer.{Layer}
use Rattle.seccomp_answers.specs.Layers.{IsLayer}

-- ---- names of filters

-- The error tells of the name that is asked for.
abbrev pub IsOfName : (asked : Option (List ℕ)) → AnswerError → Type 0
IsOfName asked (NoFilter name) = asked ≡ Some (string_bytes name)
IsOfName asked OutOfMemory = ⊤
IsOfName asked e = ⊥

-- Between layers: nothing is found under the name that is asked for.
abbrev pub IsMissingIn : {V : Type 0} → (asked : Option (List ℕ)) → (find : List ℕ → Option V) → AnswerError → Type 0
IsMissingIn asked find (NoFilter name) = (asked ≡ Some (string_bytes name)) × (find (string_bytes name) ≡ None)
IsMissingIn asked find OutOfMemory = ⊤
IsMissingIn asked find e = ⊥

-- Between layers: that is so; or no name is asked for, and something is found under no name, or under more than one.
abbrev pub IsUnchosenIn : {V : Type 0} → (asked : Option (List ℕ)) → (find : List ℕ → Option V) → AnswerError → Type 0
IsUnchosenIn asked find (Unchosen names) = (asked ≡ None) × ((name : List ℕ) → IsOnly find name → ⊥)
IsUnchosenIn asked find e = IsMissingIn asked find e

-- The policy's text has no filter of the name that is asked for.
abbrev pub IsMissing : (asked : Option (List ℕ)) → (text : List ℕ) → AnswerError → Type 0
IsMissing asked text (NoFilter name) = (asked ≡ Some (string_bytes name)) × OfValue text (λ d. Lacks d (string_bytes name))
IsMissing asked text OutOfMemory = ⊤
IsMissing asked text e = ⊥

-- That is so; or no name is asked for, and the text has no filter, or more than one.
abbrev pub IsUnchosen : (asked : Option (List ℕ)) → (text : List ℕ) → AnswerError → Type 0
IsUnchosen asked text (Unchosen names) = (asked ≡ None) × OfValue text (λ d. (name : List ℕ) → HasOnlyName d name → ⊥)
IsUnchosen asked text e = IsMissing asked text e

-- ---- policies

-- The library's front end rejects the text for its first fault. No reader failed, and no lack of memory is in it.
pub record IsRejected (target : TargetArch) (text : List ℕ) (e : JsonFrontendError) : Type 0 where
  pub memory : e ≢ frontend.OutOfMemory
  pub none_inside : IsNoMemoryInFrontend e
  pub no_reader : IsNoFailedRead e
  pub first : TellsFrontendFault target text e

-- The faults, with their places, of a text that the library's front end rejects; the one at this place is told.
pub record AreUnread (target : TargetArch) (text : List ℕ) (told : ℕ) (faults : List Fault) : Type 0 where
  pub are : AreTold target text told faults
  pub own : JsonFrontendError
  pub of_front : are.placed.refusal ≡ library.JsonFrontend own

-- Why a policy's text has no policies.
abbrev pub IsUnread : TargetArch → (text : List ℕ) → AnswerError → Type 0
IsUnread target text (Library (library.JsonFrontend e)) = IsRejected target text e
IsUnread target text (Placed told faults) = AreUnread target text told faults.items
IsUnread target text OutOfMemory = ⊤
IsUnread target text e = ⊥

-- The filter is one of the policy's text.
pub record IsFilterIn (target : TargetArch) (text : List ℕ) (f : Filter) : Type 0 where
  pub filters : Policies
  pub of_text : OfValue text (ArePoliciesOf target filters)
  pub name : List ℕ
  pub there : filters name ≡ Some f

-- The error tells that the filter's program is too large in the layout.
abbrev pub TellsLarge : Layout → Filter → AnswerError → Type 0
TellsLarge Linear f (Library (library.Backend (backend.FilterTooLarge n))) = IsTooLarge f n
TellsLarge Tree f TreeTooLarge = IsTreeTooLarge f
TellsLarge layout f OutOfMemory = ⊤
TellsLarge layout f e = ⊥

-- The error tells that the filter's program is too large in both layouts.
abbrev pub TellsUnfitting : Filter → AnswerError → Type 0
TellsUnfitting f (Library (library.Backend (backend.FilterTooLarge n))) = IsTreeTooLarge f × IsTooLarge f n
TellsUnfitting f OutOfMemory = ⊤
TellsUnfitting f e = ⊥

-- Why a policy's text is refused: it has no policies; or that is wrong with the name that is asked for; or a filter is too large so.
pub data IsRefusedPolicy (target : TargetArch) (text : List ℕ) (Name Large : AnswerError → Type 0) (e : AnswerError) : Type 0 where
  unread : IsUnread target text e → IsRefusedPolicy target text Name Large e
  of_name : Name e → IsRefusedPolicy target text Name Large e
  too_large : Large e → IsRefusedPolicy target text Name Large e

-- Why the filter that is asked for, or the only one, of a policy's text isn't there.
abbrev pub IsUnpicked : TargetArch → (asked : Option (List ℕ)) → (text : List ℕ) → AnswerError → Type 0
IsUnpicked target asked text e = IsUnread target text e ⊎ IsUnchosen asked text e

-- Why not all filters of a policy's text have programs in the layout, or none has the name that is asked for.
abbrev pub AreUncompiledIn : TargetArch → Layout → (asked : Option (List ℕ)) → (text : List ℕ) → AnswerError → Type 0
AreUncompiledIn target layout asked text e = IsRefusedPolicy target text (IsMissing asked text)
    (λ told. (f : Filter) × IsFilterIn target text f × TellsLarge layout f told) e

-- The same in one of the layouts.
abbrev pub AreUncompiledInSome : TargetArch → (asked : Option (List ℕ)) → (text : List ℕ) → AnswerError → Type 0
AreUncompiledInSome target asked text e = (layout : Layout) × AreUncompiledIn target layout asked text e

-- Why there is no program that fits for the filter that is asked for, or the only one, of a policy's text.
abbrev pub IsUnfitting : TargetArch → (asked : Option (List ℕ)) → (text : List ℕ) → AnswerError → Type 0
IsUnfitting target asked text e = IsRefusedPolicy target text (IsUnchosen asked text)
    (λ told. (f : Filter) × IsFilterOf target asked text f × TellsUnfitting f told) e

-- ---- profiles and programs

-- Why a profile is rejected: a container's configuration has none; or its faults, with their places; or what its compiler finds, in which
-- is no lack of memory; or lack of memory.
abbrev pub IsRefusedProfile : TargetArch → Container → (strict : Bool) → (text : List ℕ) → AnswerError → Type 0
IsRefusedProfile target container strict text (Profile e) = (e ≢ fault.OutOfMemory) × IsCompileFault target container strict text e
IsRefusedProfile target container strict text NoProfile = LacksProfile text
IsRefusedProfile target container strict text (Placed first faults) = AreOfProfile text first faults.items
IsRefusedProfile target container strict text OutOfMemory = ⊤
IsRefusedProfile target container strict text e = ⊥

-- What is given has no filters, and one is asked for by its name; or it is refused for this.
pub data IsRefusedBeside (asked : Option (List ℕ)) (Why : AnswerError → Type 0) (e : AnswerError) : Type 0 where
  named : IsOfName asked e → IsRefusedBeside asked Why e
  refused : Why e → IsRefusedBeside asked Why e

-- Why there is no program of what is given, if `Policy` says why there is none of a policy.
abbrev pub IsRefusedAs : (Policy : AnswerError → Type 0) → TargetArch → Subject → (asked : Option (List ℕ)) → (given : List ℕ)
    → AnswerError → Type 0
IsRefusedAs Policy target subject.Policy asked text e = Policy e
IsRefusedAs Policy target (subject.Profile container) asked text e =
    IsRefusedBeside asked (IsRefusedProfile target container.now false text) e
IsRefusedAs Policy target subject.Program asked bytes e = IsRefusedBeside asked (IsRefusedProgram bytes) e

-- Why a side of a comparison has no program.
abbrev pub IsUnruled : TargetArch → Side → AnswerError → Type 0
IsUnruled target side e =
    IsRefusedAs (IsUnfitting target (text_of side.filter) side.given.now) target side.kind (text_of side.filter) side.given.now e

-- ---- what is given

-- Memory ran out before it was known what is given; or it is of a kind, and that is why.
pub data IsOfKind (reading : Reading) (given : List ℕ) (Why : Subject → Type 0) (e : AnswerError) : Type 0 where
  unknown : e ≡ OutOfMemory → IsOfKind reading given Why e
  of_kind : (kind : Subject) → IsTakenAs reading given kind → Why kind → IsOfKind reading given Why e

-- Why `explain` doesn't decide by a filter of a policy's text: the text has no programs; or by the filter's name.
pub data IsUnexplainedFilter (target : TargetArch) (asked : Option (List ℕ)) (text : List ℕ) (e : AnswerError) : Type 0 where
  rejected : IsRefusal target text e → IsUnexplainedFilter target asked text e
  unchosen : IsUnchosen asked text e → IsUnexplainedFilter target asked text e

abbrev pub IsUndecidedAs : TargetArch → Subject → (asked : Option (List ℕ)) → (given : List ℕ) → AnswerError → Type 0
IsUndecidedAs target kind asked given e = IsRefusedAs (IsUnexplainedFilter target asked given) target kind asked given e

abbrev pub IsUndecided : TargetArch → Reading → (asked : Option (List ℕ)) → (given : List ℕ) → AnswerError → Type 0
IsUndecided target reading asked given e = IsOfKind reading given (λ kind. IsUndecidedAs target kind asked given e) e

-- Memory ran out; or the error is of the old side; or it is told as one of the second of what is read, and is one of the new side.
pub data IsOfEither (Old New : AnswerError → Type 0) (e : AnswerError) : Type 0 where
  of_neither : e ≡ OutOfMemory → IsOfEither Old New e
  of_old : Old e → IsOfEither Old New e
  of_new : (own : AnswerError) → New own → IsOfSecond own e → IsOfEither Old New e

-- Why not all filters of a policy's text that are compared have programs that fit.
abbrev pub AreUnfitting : TargetArch → (text : List ℕ) → AnswerError → Type 0
AreUnfitting target text e =
    IsRefusedPolicy target text (λ told. ⊥) (λ told. (f : Filter) × IsFilterIn target text f × TellsUnfitting f told) e

-- Why two sides aren't compared: all filters of both, or one thing on each side.
abbrev pub IsUndiffed : TargetArch → (old new : Side) → AnswerError → Type 0
IsUndiffed target old new e = by (is_whole old && is_whole new)
  where
    by : (whole : Bool) → Type 0
    by true = IsOfEither (AreUnfitting target old.given.now) (AreUnfitting target new.given.now) e
    by false = IsOfEither (IsUnruled target old) (IsUnruled target new) e

-- Why there is no program of a layer, told with its path.
pub data IsUnlayered (target : TargetArch) (reading : Reading) (layer : Layer) (e : AnswerError) : Type 0 where
  unknown_layer : e ≡ OutOfMemory → IsUnlayered target reading layer e
  of_layer : (side : Side) → IsSideOf reading layer.filter layer.text.items side → (own : AnswerError)
      → IsUnruled target side own → IsAtPath own e → IsUnlayered target reading layer e

-- Memory ran out; or the error is of the first layer that has no program: each in front of it has one.
pub data IsOfLayers (target : TargetArch) (reading : Reading) (layers : List Layer) (e : AnswerError) : Type 0 where
  of_no_layer : e ≡ OutOfMemory → IsOfLayers target reading layers e
  of_first : (place : ℕ) (layer : Layer) → slice_get layers place ≡ Some layer → (programs : List (Vec sock_filter Global))
      → AllZip (IsLayer target reading) (take place layers) programs → IsUnlayered target reading layer e
      → IsOfLayers target reading layers e

-- ---- the steps

-- Between layers: why not all of these filters have programs in a layout.
abbrev pub IsUnfitAmong : Layout → Policies → FilterError → Type 0
IsUnfitAmong layout filters filter.OutOfMemory = ⊤
IsUnfitAmong layout filters e = (name : List ℕ) × (f : Filter) × (filters name ≡ Some f) × IsRefusalIn layout f e

-- Between layers: the error is the refusal of a filter that fits in no layout; of one that is found; or of one that is there.
abbrev pub IsUnfittingFilter : Filter → AnswerError → Type 0
IsUnfittingFilter f e = (cause : BackendError) × IsFittingRefusal f cause × (e ≡ from_library (from_backend cause))

abbrev pub IsUnfittingIn : Policies → AnswerError → Type 0
IsUnfittingIn filters e = (name : List ℕ) × (f : Filter) × (filters name ≡ Some f) × IsUnfittingFilter f e

abbrev pub IsUnfittingUnder : Option Filter → AnswerError → Type 0
IsUnfittingUnder there e = (f : Filter) × (there ≡ Some f) × IsUnfittingFilter f e
