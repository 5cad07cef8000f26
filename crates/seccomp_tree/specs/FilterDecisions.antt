-- A filter as decisions, and why it is none.
use Rattle.std.specs.Prelude.{ℕ, ℤ, ◌↔◌, List, [], ◌∷◌, map, unsigned_abs}
use Rattle.seccompiler.specs.Policy.{Chain, Filter, IsDecision, word_of}
use Rattle.seccompiler.specs.Compiled.{AreCallNumbers, IsLeastUnfit, numbers_of}
use Rattle.seccomp_tree.specs.declared.error.FilterError.{FilterError}
use Rattle.seccomp_tree.specs.declared.error.FilterError.TheVariants.{InvalidSyscallNumber, OutOfMemory}
use Rattle.seccomp_tree.specs.Decisions.{Ruling}
use Rattle.seccomp_tree.specs.Decided.{DecisionSet, IsDecided}

-- The rulings of a chain: each of its rules, or no condition if it has none, names the word.
abbrev pub rulings_of : ℕ → Chain → List Ruling
rulings_of w [] = record { conditions = []; value = w } ∷ []
rulings_of w (q ∷ chain) = map (λ rule. record { conditions = rule; value = w }) (q ∷ chain)

-- A call number, and the rulings of its chain.
abbrev pub call_of : ℕ → ℤ × Chain → ℕ × List Ruling
call_of w e = (unsigned_abs e.0, rulings_of w e.1)

-- A filter as decisions: its chains name the match word, and all other calls have the mismatch word.
abbrev pub decisions_of : Filter → DecisionSet
decisions_of f = record {
  target_arch = f.target_arch;
  defaults = record { start = 0; value = word_of f.mismatch_action } ∷ [];
  calls = map (call_of (word_of f.match_action)) f.chains;
}

-- The decisions decide every record as the filter does.
abbrev pub DecideAs : Filter → DecisionSet → Type 0
DecideAs f d = (r : List ℕ) (w : ℕ) → IsDecided d r w ↔ IsDecision f r w

-- Why a filter gives no decisions: the least number that is no call number; else lack of memory.
abbrev pub IsUndecidable : Filter → FilterError → Type 0
IsUndecidable f (InvalidSyscallNumber n) = IsLeastUnfit (numbers_of f.chains) n
IsUndecidable f OutOfMemory = AreCallNumbers (numbers_of f.chains)
IsUndecidable f _ = ⊥
