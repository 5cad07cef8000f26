-- The program of decisions: it returns what they decide, soon, and is short.
use Rattle.std.specs.Prelude.{◌≡◌, ◌≢◌, ℕ, ◌+◌, ◌*◌, ◌^◌, ◌<◌, ◌≤◌, List, [], ◌∷◌, length, false, true, Option, Some, None, nat_eq}
use Rattle.std.specs.Prelude.{if◌then◌else◌}
use Rattle.std.specs.Set.{is_member}
use Rattle.seccompiler.specs.declared.bpf.sock_filter.{sock_filter}
use Rattle.seccompiler.specs.Machine.{IsRecord, word_at, Ends, IsChecked, greatest_length}
use Rattle.seccompiler.specs.Architecture.{audit_word}
use Rattle.seccomp_tree.specs.declared.error.TreeError.{TreeError}
use Rattle.seccomp_tree.specs.declared.error.TreeError.TheVariants.{TooLarge}
use Rattle.seccomp_tree.specs.Decisions.{Ruling, Takes, rules_length}
use Rattle.seccomp_tree.specs.Decided.{DecisionSet, default_for, rulings_for, IsDecided}

-- The value that alone answers a call, if one does: the default if there is no ruling, or that of a first without
-- conditions.
abbrev pub one_value : ℕ → List Ruling → Option ℕ
one_value default [] = Some default
one_value default (d ∷ rulings) = if nat_eq (length d.conditions) 0 then Some d.value else None

-- The same, for the calls of a number.
abbrev pub value_for : DecisionSet → ℕ → Option ℕ
value_for d number = one_value (default_for d.defaults number) (rulings_for d.calls number)

-- Ranges of call numbers, by where each starts: a number that starts none is answered by one value, as the one below it is.
pub record AreRanges (d : DecisionSet) (starts : List ℕ) : Type 0 where
  pub zero : is_member nat_eq starts 0 ≡ true
  pub alike : (n : ℕ) → n + 1 < 2 ^ 32 → is_member nat_eq starts (n + 1) ≡ false
      → (v : ℕ) × (value_for d n ≡ Some v) × (value_for d (n + 1) ≡ Some v)

-- How many instructions the rulings of all numbers take at most.
abbrev pub calls_length : List (ℕ × List Ruling) → ℕ
calls_length [] = 0
calls_length (e ∷ calls) = rules_length e.1 + calls_length calls

-- How many instructions the program takes at most, by how many ranges there are.
abbrev pub length_by : DecisionSet → ℕ → ℕ
length_by d ranges = 3 * ranges + 3 + calls_length d.calls

-- How many steps a record takes of its own: none if one value answers it, else those of its number's rulings.
pub data TakesOwn (d : DecisionSet) (r : List ℕ) : ℕ → Type 0 where
  other : word_at r 4 ≢ audit_word d.target_arch → TakesOwn d r 0
  one : (v : ℕ) → value_for d (word_at r 0) ≡ Some v → TakesOwn d r 0
  own : (n : ℕ) → Takes r 0 (rulings_for d.calls (word_at r 0)) n → TakesOwn d r n

-- The program returns the word within so many steps.
pub record EndsWithin (p : List sock_filter) (r : List ℕ) (w n : ℕ) : Type 0 where
  pub steps : ℕ
  pub few : steps ≤ n
  pub ends : Ends p r steps w

-- The program returns what is decided for the record, within as many steps as it has instructions.
pub record EndsAsDecided (d : DecisionSet) (p : List sock_filter) (r : List ℕ) : Type 0 where
  pub word : ℕ
  pub decided : IsDecided d r word
  pub ends : EndsWithin p r word (length p)

-- The program of decisions: it may be run, decides every record, is soon done if the ranges are at most 2 ^ k, and is
-- short.
pub record IsTreeProgram (d : DecisionSet) (p : List sock_filter) : Type 0 where
  pub checked : IsChecked p
  pub decides : (r : List ℕ) → IsRecord r → EndsAsDecided d p r
  pub soon : (r : List ℕ) → IsRecord r → (w n k : ℕ) → IsDecided d r w → TakesOwn d r n → (starts : List ℕ) → AreRanges d starts
      → length starts ≤ 2 ^ k → EndsWithin p r w (4 + 2 * k + n)
  pub short : (starts : List ℕ) → AreRanges d starts → length p ≤ length_by d (length starts)

-- There is no room for a program: this comes only if its length could exceed the greatest, or of memory.
abbrev pub IsTooLargeFor : DecisionSet → TreeError → Type 0
IsTooLargeFor d e = e ≡ TooLarge → (starts : List ℕ) → AreRanges d starts → greatest_length < length_by d (length starts)
