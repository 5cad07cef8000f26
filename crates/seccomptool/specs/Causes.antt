-- Why an engine gives no answer: each error has its cause in what is given. Lack of memory may come in place of all.
use Rattle.std.specs.List.{AllZip}
use Rattle.std.specs.Prelude.{[], ⊤, ◌∷◌, ◌≡◌, Bool, List, Option, String, Vec, false, true, ℕ}
use Rattle.std.specs.declared.alloc.Global.{Global}
use Rattle.seccomptool.specs.Words.{AnswerError, AreUncompiledIn, AreUncompiledInSome, Call, Compile}
use Rattle.seccomptool.specs.Words.{IsUncalledOf, machine_of}
use Rattle.seccomptool.specs.Words.{Container, Diff, Explain, Fault, Filter, FilterError, HasUnknown, IsFilterOf, IsLayer, IsOfKind}
use Rattle.seccomptool.specs.Words.{IsOfLayers, IsRefusal, IsRefusedAs, IsRefusedBeside, IsRefusedPolicy, IsRefusedProfile}
use Rattle.seccomptool.specs.Words.{IsRefusedProgram, IsSideOf, IsTooLarge, IsTreeTooLarge, IsUnchosen, IsUndecided, IsUndiffed}
use Rattle.seccomptool.specs.Words.{Layer, Layout, Linear, One, OutOfMemory, Profile, Show, Side, Stack, Subject}
use Rattle.seccomptool.specs.Words.{TargetArch, Tree, from_filter, from_stack, sock_filter, text_of}
use Rattle.seccomp_tree.specs.declared.error.FilterError.TheVariants as filter
use Rattle.seccomp_profiles.specs.declared.compiled.CompileError.TheVariants as profile
use Rattle.seccomp_stack.specs.declared.StackError.{StackError}
use Rattle.seccomp_answers.specs.declared.kind.Subject.TheVariants as subject

-- ---- policies

-- The error is a text of a fault. What it says is tested.
abbrev pub IsFaultText : AnswerError → Type 0
IsFaultText (Fault told) = ⊤
IsFaultText OutOfMemory = ⊤
IsFaultText e = ⊥

-- The refusal is that the program is too large.
abbrev pub IsSize : FilterError → Type 0
IsSize (filter.FilterTooLarge n) = ⊤
IsSize filter.TreeTooLarge = ⊤
IsSize cause = ⊥

-- The filter's program is too large in the layout.
abbrev pub IsLargeIn : Layout → Filter → Type 0
IsLargeIn Linear f = (n : ℕ) × IsTooLarge f n
IsLargeIn Tree f = IsTreeTooLarge f

-- Why there is no program in the layout for the filter that is asked for, or the only one, of a policy's text.
abbrev pub IsUncompiledIn : TargetArch → Layout → (asked : Option (List ℕ)) → (text : List ℕ) → AnswerError → Type 0
IsUncompiledIn target layout asked text e = IsRefusedPolicy target text (IsUnchosen asked text)
    (λ told. (f : Filter) × IsFilterOf target asked text f × IsLargeIn layout f × IsFaultText told) e

-- ---- profiles and programs

-- Why a profile isn't compiled: its names that no call of the architecture has are told in a text.
pub data IsUncompiledProfile (target : TargetArch) (container : Container) (strict : Bool) (text : List ℕ) (e : AnswerError) : Type 0 where
  uncompiled : IsRefusedProfile target container strict text e → IsUncompiledProfile target container strict text e
  unknown_names : (names : List (List ℕ)) → strict ≡ true → HasUnknown target container text names → IsFaultText e
      → IsUncompiledProfile target container strict text e

-- ---- commands

-- Why `compile` has no program of what is given.
abbrev pub IsUncompiledAs : Compile → Subject → (given : List ℕ) → AnswerError → Type 0
IsUncompiledAs asked subject.Policy text e = IsUncompiledIn asked.arch asked.layout (text_of asked.subject.filter) text e
IsUncompiledAs asked (subject.Profile container) text e =
    IsRefusedBeside (text_of asked.subject.filter) (IsUncompiledProfile asked.arch container.now asked.strict text) e
IsUncompiledAs asked subject.Program bytes e = IsRefusedBeside (text_of asked.subject.filter) (IsRefusedProgram bytes) e

abbrev pub IsUncompiled : Compile → (given : List ℕ) → AnswerError → Type 0
IsUncompiled asked given e = IsOfKind asked.reading given (λ kind. IsUncompiledAs asked kind given e) e

-- Why `show` has no programs of a policy's text, or no numbers of theirs in one of the layouts.
abbrev pub AreUnshown : (measured : Bool) → TargetArch → Layout → (asked : Option (List ℕ)) → (text : List ℕ) → AnswerError → Type 0
AreUnshown false target layout asked text e = AreUncompiledIn target layout asked text e
AreUnshown true target layout asked text e = AreUncompiledInSome target asked text e

abbrev pub IsUnshownAs : Show → Subject → (given : List ℕ) → AnswerError → Type 0
IsUnshownAs asked kind given e =
    IsRefusedAs (AreUnshown asked.measured asked.arch asked.layout (text_of asked.subject.filter) given) asked.arch kind (text_of
    asked.subject.filter)
    given e

abbrev pub IsUnshown : Show → (given : List ℕ) → AnswerError → Type 0
IsUnshown asked given e = IsOfKind asked.reading given (λ kind. IsUnshownAs asked kind given e) e

-- Why `diff` compares nothing.
pub data IsUncompared (asked : Diff) (old_given new_given : List ℕ) (e : AnswerError) : Type 0 where
  unknown_kind : e ≡ OutOfMemory → IsUncompared asked old_given new_given e
  of_sides : (old new : Side) → IsSideOf asked.reading asked.old.filter old_given old
      → IsSideOf asked.reading asked.new.filter new_given new
      → IsUndiffed asked.terms.target old new e → IsUncompared asked old_given new_given e

-- Why `explain` explains nothing: one call is asked about, and is none of the architecture; or by the only one of what is given, or by all.
pub data IsUnexplained (asked : Explain) (layers : List Layer) (e : AnswerError) : Type 0 where
  uncalled : (call : Call) → asked.calls ≡ One call → IsUncalledOf asked.abi call.name.now e → IsUnexplained asked layers e
  undecided : (subject : Layer) → layers ≡ subject ∷ []
      → IsUndecided (machine_of asked.abi) asked.reading (text_of subject.filter) subject.text.items e → IsUnexplained asked layers e
  of_layers : IsOfLayers (machine_of asked.abi) asked.reading layers e → IsUnexplained asked layers e

-- Why `stack` writes nothing: by the layers; or the program of all would be too long.
pub data IsUnstacked (asked : Stack) (layers : List Layer) (e : AnswerError) : Type 0 where
  unstacked : IsOfLayers asked.arch asked.reading layers e → IsUnstacked asked layers e
  too_long : (programs : List (Vec sock_filter Global)) → AllZip (IsLayer asked.arch asked.reading) layers programs → (refusal : StackError)
      → IsRefusal programs refusal → e ≡ from_stack refusal → IsUnstacked asked layers e

-- ---- the steps

-- Between layers: that a filter is too large is told in a text, and another refusal stays as it is.
pub data IsSizeTold (cause : FilterError) (e : AnswerError) : Type 0 where
  size_text : IsSize cause → IsFaultText e → IsSizeTold cause e
  no_size : (IsSize cause → ⊥) → e ≡ from_filter cause → IsSizeTold cause e

-- Between layers: names that no call has are told in a text, and another error stays as it is.
pub data AreNamesTold (own e : AnswerError) : Type 0 where
  names_text : (names : Vec (String Global) Global) → own ≡ Profile (profile.UnknownNames names) → IsFaultText e → AreNamesTold own e
  no_names : e ≡ own → AreNamesTold own e
