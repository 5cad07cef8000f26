-- What the kernel makes of a call for which several programs hold: it runs all of them and takes the strictest answer.
use Rattle.std.specs.Prelude.{◌≡◌, ℕ, ◌+◌, ◌%◌, ◌<◌, ◌≤◌, List, [], Vec, Some, slice_get, nat_lt, if◌then◌else◌, bit_and}
use Rattle.std.specs.List.{AllZip, sum}
use Rattle.std.specs.declared.alloc.Global.{Global}
use Rattle.seccompiler.specs.declared.bpf.sock_filter.{sock_filter}
use Rattle.seccompiler.specs.Machine.{IsRecord}
use Rattle.seccomp_compare.specs.Machine.{Ends, IsChecked}

-- The place of a word's action among all, from the strictest: the kernel compares the upper halves as signed numbers, and the
-- least is the strictest (kernel/seccomp.c, seccomp_run_filters).
abbrev pub strictness : ℕ → ℕ
strictness word = (bit_and word 0xffff0000 + 0x80000000) % 0x100000000

-- Of the words of two programs the kernel takes that of the stricter action, and of equal ones that of the program that was
-- installed last. (The data of a word that allows has no effect, and the kernel leaves it out.)
abbrev pub prevailing : (older newer : ℕ) → ℕ
prevailing older newer = if nat_lt (strictness older) (strictness newer) then older else newer

-- The program answers this record with this word.
pub record Returns (p : List sock_filter) (r : List ℕ) (word : ℕ) : Type 0 where
  pub steps : ℕ
  pub ends : Ends p r steps word

-- Of the programs, in the order in which they are installed, the one at this place decides, and returns this word: each returns
-- one that is no stricter, and a program that is installed later one that is less strict.
pub record IsDecidedAt (r : List ℕ) (programs : List (Vec sock_filter Global)) (place word : ℕ) : Type 0 where
  pub program : Vec sock_filter Global
  pub here : slice_get programs place ≡ Some program
  pub returns : Returns program.items r word
  pub others : (at : ℕ) (other : Vec sock_filter Global) → slice_get programs at ≡ Some other
      → (by_other : ℕ) × Returns other.items r by_other × (strictness word ≤ strictness by_other)
      × (place < at → strictness word < strictness by_other)

-- The programs, in the order in which they are installed, answer this record so. Without any the kernel allows each call.
pub data IsStackDecision (r : List ℕ) (programs : List (Vec sock_filter Global)) (word : ℕ) : Type 0 where
  of_none : programs ≡ [] → word ≡ 0x7fff0000 → IsStackDecision r programs word
  of_one : (place : ℕ) → IsDecidedAt r programs place word → IsStackDecision r programs word

-- The program may be run, and returns for each record what the kernel makes of all of these, and nothing else.
pub record IsStack (programs : List (Vec sock_filter Global)) (program : List sock_filter) : Type 0 where
  pub checked : IsChecked program
  pub decides : (r : List ℕ) → IsRecord r → (word : ℕ) × Returns program r word × IsStackDecision r programs word
  pub only : (r : List ℕ) → IsRecord r → (steps word : ℕ) → Ends program r steps word → IsStackDecision r programs word

-- The programs take so many steps together, each from its first instruction to its return.
pub record HaveSteps (r : List ℕ) (programs : List (Vec sock_filter Global)) (n : ℕ) : Type 0 where
  pub each : List ℕ
  pub takes : AllZip (λ p steps. (word : ℕ) × Ends p.items r steps word) programs each
  pub total : n ≡ sum each
