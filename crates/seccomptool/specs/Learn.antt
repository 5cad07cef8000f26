-- What `learn` gives: a policy of the calls that were observed, which are added to a filter.
use Rattle.std.specs.Borrow.{Bor}
use Rattle.std.specs.List.{AllZip}
use Rattle.std.specs.Prelude.{[], ⊤, ◌++◌, ◌∷◌, ◌≡◌, ◌≢◌, ◌≤◌, ◌⊎◌, Any, Bool, List, None, Option, Some, codes, false, flat_map}
use Rattle.std.specs.Prelude.{slice_index_or, true, unwrap_or, ℕ}
use Rattle.seccomptool.specs.Words.{Allow, AnswerError, AreCloning, AreRunnable}
use Rattle.seccomptool.specs.Words.{AreUsual, AskedArguments, Errno, Fault, HasFilter, HasFilters, Into, IsAskedArgument, IsCall}
use Rattle.seccomptool.specs.Words.{IsChosen, IsUncalled, IsUnpicked, JsonFilter, Kept, Layer, Learn, Observation}
use Rattle.seccomptool.specs.Words.{Otherwise, OutOfMemory, Start, TargetArch, Told, Trace, beside}
use Rattle.seccomptool.specs.Words.{from_library, text_of}
use Rattle.seccompiler.specs.declared.backend.SeccompAction.{SeccompAction}
use Rattle.seccompiler.specs.declared.json.error.JsonFrontendError.{JsonFrontendError}
use Rattle.seccompiler.specs.Errors.{from_frontend}
use Rattle.seccompiler.specs.JsonSteps.{IsBeforePolicies, IsNoFailedRead, IsPolicyRefusal}
use Rattle.seccomp_learn.specs.declared.policy.Lesson.{Lesson}
use Rattle.seccomp_learn.specs.Learned.{IsLearnedWithin}
use Rattle.seccomptool.specs.Causes.{IsFaultText}

-- What a trace is.
abbrev pub TraceReading : Type 1
TraceReading = TargetArch → List ℕ → Trace → Type 0

-- Calls are added to this filter of this name, beside others: one that allows nothing, and answers with this action; or that of a
-- policy's text that is asked for, or the only one, if it allows what it lists.
abbrev pub IsBase : Start → (asked : Option (List ℕ)) → (text name : List ℕ) → JsonFilter → (others : List ℕ → Option JsonFilter) → Type 0
IsBase (Otherwise action) asked text name base others =
    (name ≡ unwrap_or asked (codes "main")) × (base ≡ record { mismatch_action = action; match_action = Allow; rules = [] })
    × ((other : List ℕ) → others other ≡ None)
IsBase (Into path) asked text name base others =
    IsChosen text asked name × HasFilters text (beside others name base) × (base.match_action ≡ Allow)

-- The filter that answers `clone3` with ENOSYS, and allows other calls.
abbrev pub clone3_filter : JsonFilter
clone3_filter = record {
  mismatch_action = Allow;
  match_action = Errno 38;
  rules = record { syscall = codes "clone3"; conditions = None } ∷ [];
}

-- What is found beside the filter of this name: the others, and this one, if it is asked for.
abbrev pub with_second : (asked : Bool) → (name : List ℕ) → (others : List ℕ → Option JsonFilter) → List ℕ → Option JsonFilter
with_second false name others = others
with_second true name others = beside others (name ++ codes "_clone3") clone3_filter

-- Other calls can get this: for a drop-in systemd takes an errno of 1 to 4095. Of other actions it has none but to kill.
abbrev pub IsTaken : (as_unit : Bool) → SeccompAction → Type 0
IsTaken as_unit (Errno number) = as_unit ≡ true → (1 ≤ number) × (number ≤ 4095)
IsTaken as_unit action = ⊤

-- The error tells that this isn't so, or is lack of memory.
abbrev pub IsUntaken : (as_unit : Bool) → SeccompAction → AnswerError → Type 0
IsUntaken as_unit action (Fault text) = IsTaken as_unit action → ⊥
IsUntaken as_unit action OutOfMemory = ⊤
IsUntaken as_unit action e = ⊥

-- The lesson is learned of the observed calls, which are added to this; it has this name, and these others beside it.
pub record IsLearned (asked : Learn) (wanted : List Kept) (observed : List Observation) (text name : List ℕ) (lesson : Lesson)
    (beside_it : List ℕ → Option JsonFilter) : Type 0 where
  pub base : JsonFilter
  pub others : List ℕ → Option JsonFilter
  pub is_base : IsBase asked.start (text_of asked.name) text name base others
  pub taken : IsTaken asked.as_unit base.mismatch_action
  pub learned : IsLearnedWithin asked.arch asked.most wanted observed base lesson
  pub beside_is : beside_it ≡ with_second asked.old_clone name others

-- That is so, unless an option is given.
abbrev pub Unless : (given : Bool) → Type 0 → Type 0
Unless true P = ⊤
Unless false P = P

-- A policy is written that has this filter under this name, and the others; unless it is a profile or a drop-in.
abbrev pub IsWrittenPolicy : Learn → (others : List ℕ → Option JsonFilter) → (name : List ℕ) → JsonFilter → (text : List ℕ) → Type 0
IsWrittenPolicy asked others name filter text =
    Unless asked.as_profile (Unless asked.as_unit (HasFilters text (beside others name filter)))

-- They are so, if they are asked for, or else there are none.
abbrev pub AreIf : (asked : Bool) → (List Observation → Type 0) → List Observation → Type 0
AreIf true Are calls = Are calls
AreIf false Are calls = calls ≡ []

-- The observed calls are those that were read of traces; and those that the C library makes by itself, and `clone` and `clone3`, if they
-- are asked for.
pub record AreObserved (asked : Learn) (traces : List Trace) (observed : List Observation) : Type 0 where
  pub runnable : List Observation
  pub are_runnable : AreIf asked.runnable (AreRunnable asked.arch) runnable
  pub cloning : List Observation
  pub are_cloning : AreIf asked.old_clone (AreCloning asked.arch) cloning
  pub are : observed ≡ (flat_map (λ (trace : Trace). trace.observed.items) traces ++ runnable) ++ cloning

-- ---- the arguments whose values are wanted

-- Each of these changes a value in turn, the first one first.
abbrev pub InTurn : {X S : Type 0} → (Step : X → S → S → Type 0) → List X → (before after : S) → Type 0
InTurn Step [] before after = after ≡ before
InTurn {S = S} Step (x ∷ xs) before after = (between : S) × Step x before between × InTurn Step xs between after

-- It is this argument of the call of this number, or any of the call's.
abbrev pub IsArgument : (number : ℕ) → (index : Option ℕ) → Kept → Type 0
IsArgument number None kept = kept.number ≡ number
IsArgument number (Some index) kept = (kept.number ≡ number) × (kept.arg_index ≡ index)

-- The argument of this index is added at the end, if it is asked for and isn't there yet.
pub data IsWithArgument (observed : List Observation) (number : ℕ) (asked : List Bool) (index : ℕ) (before after : List Kept) : Type 0 where
  unasked : slice_index_or asked index false ≡ false → after ≡ before → IsWithArgument observed number asked index before after
  there : Any (IsArgument number (Some index)) before → after ≡ before → IsWithArgument observed number asked index before after
  added : (kept : Kept) → slice_index_or asked index false ≡ true → (Any (IsArgument number (Some index)) before → ⊥)
      → IsAskedArgument observed number index kept → after ≡ before ++ kept ∷ [] → IsWithArgument observed number asked index before after

-- The indices of a call's arguments.
abbrev pub indices : List ℕ
indices = 0 ∷ 1 ∷ 2 ∷ 3 ∷ 4 ∷ 5 ∷ []

-- The arguments of a call that are asked for are added, in the order of their indices.
abbrev pub AreWithCall : TargetArch → List Observation → AskedArguments → (before after : List Kept) → Type 0
AreWithCall arch observed call before after =
    (number : ℕ) × IsCall arch call.call.now number × InTurn (IsWithArgument observed number call.indices) indices before after

-- These are the usual ones, to which those that are asked for are added, of one call after the other.
pub record AreWanted (asked : Learn) (observed : List Observation) (wanted : List Kept) : Type 0 where
  pub usual : List Kept
  pub are_usual : AreUsual asked.arch usual
  pub are : InTurn (AreWithCall asked.arch observed) asked.arguments.items usual wanted

-- ---- traces that aren't understood

-- It is a trace; and no line and no byte of it isn't understood, if that is asked for.
pub record IsUnderstood (strict : Bool) (trace : Trace) : Type 0 where
  pub is_trace : trace.is_trace ≡ true
  pub lines : strict ≡ true → trace.strange.items ≡ []
  pub bytes : strict ≡ true → trace.rest ≡ 0

-- The error tells that this isn't so, or is lack of memory.
abbrev pub IsStrange : (strict : Bool) → Trace → AnswerError → Type 0
IsStrange strict trace (Told text) = IsUnderstood strict trace → ⊥
IsStrange strict trace OutOfMemory = ⊤
IsStrange strict trace e = ⊥

-- The trace is what is read of this, and it is understood.
pub record IsTraceOf (reads : TraceReading) (asked : Learn) (input : Layer) (trace : Trace) : Type 0 where
  pub read : reads asked.arch input.text.items trace
  pub understood : IsUnderstood asked.strict trace

-- ---- a lesson

-- A lesson is learned of exactly what was read of these, in their order, and of no other call. It is written.
pub record IsLesson (reads : TraceReading) (asked : Learn) (traced : List Layer) (text written : List ℕ) : Type 0 where
  pub traces : List Trace
  pub are_traces : AllZip (IsTraceOf reads asked) traced traces
  pub observed : List Observation
  pub are_observed : AreObserved asked traces observed
  pub wanted : List Kept
  pub are_wanted : AreWanted asked observed wanted
  pub name : List ℕ
  pub lesson : Lesson
  pub others : List ℕ → Option JsonFilter
  pub is : IsLearned asked wanted observed text name lesson others
  pub policy : Unless asked.json (IsWrittenPolicy asked others name lesson.learned.json written)

-- ---- why there is none

-- What is read of this isn't understood.
abbrev pub IsStrangeOf : TraceReading → Learn → AnswerError → Layer → Type 0
IsStrangeOf reads asked e input = (trace : Trace) × reads asked.arch input.text.items trace × IsStrange asked.strict trace e

-- One of the calls of `--args` is none of the architecture.
abbrev pub IsUnknown : Learn → AnswerError → Type 0
IsUnknown asked e = Any (λ (call : AskedArguments). IsUncalled asked.arch call.call.now e) asked.arguments.items

-- The policy that calls are added to is rejected, or has no filter of the name.
abbrev pub IsUnpickedInto : Learn → (text : List ℕ) → AnswerError → Type 0
IsUnpickedInto asked text e =
    (path : Bor (List ℕ)) × (asked.start ≡ Into path) × IsUnpicked asked.arch (text_of asked.name) text e

-- Why nothing is learned: a policy that calls are added to is rejected, or none of its filters is picked by name; or its filter
-- doesn't allow what it lists; or the filter is no policy of the architecture; or systemd doesn't take its errno. Or memory ran out.
pub data IsUntaught (asked : Learn) (text : List ℕ) (e : AnswerError) : Type 0 where
  no_memory : e ≡ OutOfMemory → IsUntaught asked text e
  unpicked : IsUnpickedInto asked text e → IsUntaught asked text e
  denying : (path : Bor (List ℕ)) → asked.start ≡ Into path → (name : List ℕ) (filter : JsonFilter)
      → IsChosen text (text_of asked.name) name → HasFilter text name filter → filter.match_action ≢ Allow → IsFaultText e
      → IsUntaught asked text e
  no_policy : (name : List ℕ) (base : JsonFilter) (others : List ℕ → Option JsonFilter)
      → IsBase asked.start (text_of asked.name) text name base others
      → (cause : JsonFrontendError) → IsPolicyRefusal asked.arch base cause → e ≡ from_library (from_frontend cause)
      → IsUntaught asked text e
  untaken : (name : List ℕ) (base : JsonFilter) (others : List ℕ → Option JsonFilter)
      → IsBase asked.start (text_of asked.name) text name base others → IsUntaken asked.as_unit base.mismatch_action e
      → IsUntaught asked text e

-- A policy's text that is made is rejected when it is read back. No reader failed.
abbrev pub IsUnwritten : Learn → AnswerError → Type 0
IsUnwritten asked e = (asked.as_profile ≡ false) × (asked.as_unit ≡ false) × (cause : JsonFrontendError) × IsBeforePolicies cause
    × IsNoFailedRead cause × (e ≡ from_library (from_frontend cause))

-- Memory ran out, or that is so.
abbrev pub OrMemory : (AnswerError → Type 0) → AnswerError → Type 0
OrMemory Is e = (e ≡ OutOfMemory) ⊎ Is e

-- Why `learn` gives nothing: a trace isn't understood; a call of `--args` is unknown; nothing is learned; or it isn't written.
pub data IsUnlearned (reads : TraceReading) (asked : Learn) (traced : List Layer) (text : List ℕ) (e : AnswerError) : Type 0 where
  of_trace : OrMemory (λ error. Any (IsStrangeOf reads asked error) traced) e → IsUnlearned reads asked traced text e
  of_call : OrMemory (IsUnknown asked) e → IsUnlearned reads asked traced text e
  of_base : IsUntaught asked text e → IsUnlearned reads asked traced text e
  of_text : OrMemory (IsUnwritten asked) e → IsUnlearned reads asked traced text e

-- The error is a text, or lack of memory.
abbrev pub IsTold : AnswerError → Type 0
IsTold (Told text) = ⊤
IsTold OutOfMemory = ⊤
IsTold e = ⊥
