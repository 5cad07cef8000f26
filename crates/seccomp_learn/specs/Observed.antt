-- Which call records are as calls were observed, and which calls have more values than a limit.
use Rattle.std.specs.Prelude.{◌≡◌, ◌≢◌, ◌<◌, ◌≤◌, ℕ, pos, List, Option, Some, None, All, AllPairs, Any, Contains, length, option_map, ⊤}
use Rattle.std.specs.Prelude.{slice_index_or}
use Rattle.seccompiler.specs.declared.backend.TargetArch.{TargetArch}
use Rattle.seccompiler.specs.Architecture.{table_of}
use Rattle.seccompiler.specs.Machine.{argument_at, word_at}
use Rattle.seccompiler.specs.Policy.{part_of}
use Rattle.seccompiler.specs.SyscallTable.{number_of}
use Rattle.seccomp_learn.specs.declared.observation.Observation.{Observation}
use Rattle.seccomp_learn.specs.declared.observation.Kept.{Kept}

-- Some call of the architecture has this number.
abbrev pub HasName : TargetArch → ℕ → Type 0
HasName arch number = (name : List ℕ) × (number_of (table_of arch) name ≡ Some (pos number))

-- What an observation has of an argument, if its trace says that.
abbrev pub value_at : Observation → ℕ → Option ℕ
value_at o index = slice_index_or o.arguments index None

-- The record has this value in the argument that is kept, in as much of it as is kept; any where no value was seen.
abbrev pub HasValue : List ℕ → Kept → Option ℕ → Type 0
HasValue r kept None = ⊤
HasValue r kept (Some value) = part_of kept.arg_len (argument_at r kept.arg_index) ≡ part_of kept.arg_len value

-- If the argument is one of the observed call, the record has the value that was seen.
abbrev pub HasSeenValue : List ℕ → Observation → Kept → Type 0
HasSeenValue r o kept = kept.number ≡ o.number → HasValue r kept (value_at o kept.arg_index)

-- The record is as the call was observed: it has its number, and the values that were seen of the arguments that are kept.
pub record IsAsObserved (kept : List Kept) (r : List ℕ) (o : Observation) : Type 0 where
  pub call : word_at r 0 ≡ o.number
  pub arguments : All (HasSeenValue r o) kept

-- The same of a call that has a name.
pub record IsAsNamed (arch : TargetArch) (kept : List Kept) (r : List ℕ) (o : Observation) : Type 0 where
  pub named : HasName arch o.number
  pub observed : IsAsObserved kept r o

-- Two observations of a call differ in what was seen of a kept argument.
abbrev pub IsSeenApart : List Kept → Observation → Observation → Type 0
IsSeenApart kept first second = Any (λ each. (each.number ≡ first.number)
    × (option_map (part_of each.arg_len) (value_at first each.arg_index)
    ≢ option_map (part_of each.arg_len) (value_at second each.arg_index))) kept

-- More than `limit` observations of the call differ, each two of them, in a kept argument.
pub record HasMoreValues (limit : ℕ) (kept : List Kept) (observed : List Observation) (number : ℕ) : Type 0 where
  pub different : List Observation
  pub among : All (λ o. Contains observed o × (o.number ≡ number)) different
  pub apart : AllPairs (IsSeenApart kept) different
  pub more : limit < length different

-- Two observations are the same in this argument, if it is one of the call.
abbrev pub IsAlikeIn : Observation → Observation → Kept → Type 0
IsAlikeIn first second each = each.number ≡ first.number
    → option_map (part_of each.arg_len) (value_at first each.arg_index) ≡ option_map (part_of each.arg_len) (value_at second each.arg_index)

-- Two observations of a call are the same in each kept argument.
abbrev pub IsSeenAlike : List Kept → Observation → Observation → Type 0
IsSeenAlike kept first second = All (IsAlikeIn first second) kept

-- Each observation of the call is, in the kept arguments, like one of at most `limit`.
pub record HasFewValues (limit : ℕ) (kept : List Kept) (observed : List Observation) (number : ℕ) : Type 0 where
  pub some : List Observation
  pub few : length some ≤ limit
  pub each : All (λ (o : Observation). o.number ≡ number → Any (λ other. IsSeenAlike kept other o) some) observed
