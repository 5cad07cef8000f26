-- When a program is compiled for a filter, and why a filter is rejected.
use Rattle.std.specs.Prelude.{◌≡◌, ◌≢◌, ℕ, ◌≤◌, List, [], None, length, ◌<◌, ℤ, ◌≤ℤ◌, ◌-◌, ◌^◌, Contains, All, map, min}
use Rattle.seccompiler.specs.declared.bpf.sock_filter.{sock_filter}
use Rattle.seccompiler.specs.Machine.{IsRecord, word_at, Ends, IsChecked, greatest_length}
use Rattle.seccompiler.specs.Architecture.{audit_word}
use Rattle.seccompiler.specs.Policy.{word_of, Filter, chain_under, IsDecision, Chain, IsCallNumber}
use Rattle.seccompiler.specs.Layout.{counted_length, passing_steps}
use Rattle.seccompiler.specs.declared.backend.BackendError.{BackendError}
use Rattle.seccompiler.specs.declared.backend.BackendError.TheVariants.{FilterTooLarge, InvalidSyscallNumber, OutOfMemory}

-- ---- compiled programs

-- The program returns the word that the policy names for the record, within as many steps as it has instructions.
pub record EndsAtDecision (f : Filter) (p : List sock_filter) (r : List ℕ) : Type 0 where
  pub steps : ℕ
  pub word : ℕ
  pub ends : Ends p r steps word
  pub few : steps ≤ length p
  pub decision : IsDecision f r word

-- If the filter has chains, a record of its architecture whose call number has none is passed in exactly the passing
-- steps, at the mismatch word.
pub record Passes (f : Filter) (p : List sock_filter) : Type 0 where
  pub passes : f.chains ≢ [] → (r : List ℕ) → IsRecord r → word_at r 4 ≡ audit_word f.target_arch
      → chain_under f.chains (word_at r 0) ≡ None → Ends p r (passing_steps f) (word_of f.mismatch_action)

-- The program is compiled for the filter: it has the counted length, may be run, decides every call record, and passes
-- each call without a chain.
pub record IsCompiled (f : Filter) (p : List sock_filter) : Type 0 where
  pub long : length p ≡ counted_length f
  pub checked : IsChecked p
  pub decides : (r : List ℕ) → IsRecord r → EndsAtDecision f p r
  pub passes : Passes f p

-- ---- why a filter is not compiled

-- The call numbers that have a chain.
abbrev pub numbers_of : List (ℤ × Chain) → List ℤ
numbers_of chains = map (λ e. e.0) chains

-- Each of these is a call number.
abbrev pub AreCallNumbers : List ℤ → Type 0
AreCallNumbers numbers = All IsCallNumber numbers

-- One of these that is no call number, and none that is less.
pub record IsLeastUnfit (numbers : List ℤ) (n : ℤ) : Type 0 where
  pub among : Contains numbers n
  pub unfit : IsCallNumber n → ⊥
  pub least : (m : ℤ) → Contains numbers m → (IsCallNumber m → ⊥) → n ≤ℤ m

-- A filter that may be compiled: all its numbers are call numbers, and its counted length is at most the greatest length.
pub record IsCompilable (f : Filter) : Type 0 where
  pub numbers : AreCallNumbers (numbers_of f.chains)
  pub short : counted_length f ≤ greatest_length

-- All its numbers are call numbers, but its counted length, which is n if a machine's number can hold it, is more than the greatest length.
pub record IsTooLarge (f : Filter) (n : ℕ) : Type 0 where
  pub numbers : AreCallNumbers (numbers_of f.chains)
  pub large : greatest_length < counted_length f
  pub length : n ≡ min (counted_length f) (2 ^ 64 - 1)

-- The refusal of a filter comes of its own cause alone: of the least number that is no call number; else of the
-- length; and lack of memory comes only if the filter may be compiled.
abbrev pub IsRefusal : Filter → BackendError → Type 0
IsRefusal f (FilterTooLarge n) = IsTooLarge f n
IsRefusal f (InvalidSyscallNumber n) = IsLeastUnfit (numbers_of f.chains) n
IsRefusal f OutOfMemory = IsCompilable f
IsRefusal f _ = ⊥
