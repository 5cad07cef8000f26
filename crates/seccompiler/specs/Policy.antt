-- A policy on system calls, and what it decides: actions, conditions, rules, filters.
use Rattle.std.specs.Prelude.{ℕ, ◌+◌, ◌%◌, ◌^◌, ◌≡◌, ◌≢◌, ◌<◌, ◌≤◌, List, bit_and, ℤ, pos, ◌⊎◌, [], Option, Some, All, Any, Vec, map}
use Rattle.seccompiler.specs.declared.backend.SeccompAction.{SeccompAction}
use Rattle.seccompiler.specs.declared.backend.SeccompAction.TheVariants.{Allow, Errno, KillThread, KillProcess, Log, Trace, Trap}
use Rattle.seccompiler.specs.declared.backend.SeccompCmpOp.{SeccompCmpOp}
use Rattle.seccompiler.specs.declared.backend.SeccompCmpOp.TheVariants.{Eq, Ge, Gt, Le, Lt, MaskedEq, Ne}
use Rattle.seccompiler.specs.declared.backend.SeccompCmpArgLen.{SeccompCmpArgLen}
use Rattle.seccompiler.specs.declared.backend.SeccompCmpArgLen.TheVariants.{Dword, Qword}
use Rattle.seccompiler.specs.Machine.{argument_at, word_at}
use Rattle.std.specs.Map.{lookup}
use Rattle.std.specs.BTreeMap.{is_at}
use Rattle.std.specs.Ordering.{int_cmp}
use Rattle.std.specs.declared.alloc.Global.{Global}
use Rattle.seccompiler.specs.declared.backend.TargetArch.{TargetArch}
use Rattle.seccompiler.specs.Architecture.{audit_word}

-- ---- actions

-- The word that a program returns for an action (seccomp(2): the upper half names the action, the lower half is its data).
abbrev pub word_of : SeccompAction → ℕ
word_of Allow = 0x7fff0000
word_of (Errno x) = 0x00050000 + x % 2 ^ 16
word_of KillThread = 0x00000000
word_of KillProcess = 0x80000000
word_of Log = 0x7ffc0000
word_of (Trace x) = 0x7ff00000 + x % 2 ^ 16
word_of Trap = 0x00030000

-- ---- conditions

-- A condition on an argument: its four parts.
pub record Condition : Type 0 where
  pub arg_index : ℕ
  pub arg_len : SeccompCmpArgLen
  pub operator : SeccompCmpOp
  pub value : ℕ

-- What is compared of a number: its low 32 bits, or all of it.
abbrev pub part_of : SeccompCmpArgLen → ℕ → ℕ
part_of Dword n = n % 2 ^ 32
part_of Qword n = n

-- The operator, with what counts of its mask.
abbrev pub operator_part : SeccompCmpArgLen → SeccompCmpOp → SeccompCmpOp
operator_part length (MaskedEq m) = MaskedEq (part_of length m)
operator_part length operator = operator

-- The number x compares with the number v as the operator says.
abbrev pub Compares : SeccompCmpOp → ℕ → ℕ → Type 0
Compares Eq x v = x ≡ v
Compares Ne x v = x ≢ v
Compares Ge x v = v ≤ x
Compares Gt x v = v < x
Compares Le x v = x ≤ v
Compares Lt x v = x < v
Compares (MaskedEq m) x v = bit_and x m ≡ bit_and v m

-- The condition holds on a call record: what counts of the argument compares with what counts of the value.
abbrev pub Holds : Condition → List ℕ → Type 0
Holds c r = Compares (operator_part c.arg_len c.operator) (part_of c.arg_len (argument_at r c.arg_index)) (part_of c.arg_len c.value)

-- How many instructions a comparison takes.
abbrev pub size_by : SeccompCmpArgLen → SeccompCmpOp → ℕ
size_by Dword (MaskedEq m) = 3
size_by Dword _ = 2
size_by Qword (MaskedEq m) = 6
size_by Qword Eq = 4
size_by Qword Ne = 4
size_by Qword _ = 5

-- How many instructions a condition takes.
abbrev pub size_of : Condition → ℕ
size_of c = size_by c.arg_len c.operator

-- ---- rules, chains, filters

-- A rule: conditions, joined by and.
abbrev pub Rule : Type 0
Rule = List Condition

-- The chain of a call number: rules, joined by or.
abbrev pub Chain : Type 0
Chain = List Rule

-- A filter: a chain for each of some call numbers, the action if no chain matches, the action if one does, and the architecture.
pub record Filter : Type 0 where
  pub chains : List (ℤ × Chain)
  pub mismatch_action : SeccompAction
  pub match_action : SeccompAction
  pub target_arch : TargetArch

-- The chains that a map of vectors holds.
abbrev pub chains_of : List (ℤ × Vec Rule Global) → List (ℤ × Chain)
chains_of entries = map (λ e. (e.0, e.1.items)) entries

-- The number fits 32 unsigned bits, as a call number in a record does.
abbrev pub IsCallNumber : ℤ → Type 0
IsCallNumber z = (n : ℕ) × (z ≡ pos n) × (n < 2 ^ 32)

-- The chain under a call number, if there is one.
abbrev pub chain_under : List (ℤ × Chain) → ℕ → Option Chain
chain_under chains n = lookup (is_at (int_cmp (pos n))) chains

-- All conditions of the rule hold.
abbrev pub RuleHolds : Rule → List ℕ → Type 0
RuleHolds q r = All (λ c. Holds c r) q

-- The chain has no rule, or some rule of it holds.
abbrev pub ChainMatches : Chain → List ℕ → Type 0
ChainMatches chain r = (chain ≡ []) ⊎ Any (λ q. RuleHolds q r) chain

-- The policy matches a record: there is a chain under the record's call number, and it matches.
pub record Matches (f : Filter) (r : List ℕ) : Type 0 where
  pub chain : Chain
  pub there : chain_under f.chains (word_at r 0) ≡ Some chain
  pub matches : ChainMatches chain r

-- The word that the policy names for a record: that of killing the process on another architecture, else that of
-- the match action if the policy matches, else that of the mismatch action.
pub data IsDecision (f : Filter) (r : List ℕ) (w : ℕ) : Type 0 where
  other_architecture : word_at r 4 ≢ audit_word f.target_arch → w ≡ 0x80000000 → IsDecision f r w
  policy_matches : word_at r 4 ≡ audit_word f.target_arch → Matches f r → w ≡ word_of f.match_action → IsDecision f r w
  policy_differs : word_at r 4 ≡ audit_word f.target_arch → (Matches f r → ⊥) → w ≡ word_of f.mismatch_action → IsDecision f r w
