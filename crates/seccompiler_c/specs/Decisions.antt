-- What a run and a decision answer for a record.
use Rattle.std.specs.Prelude.{◌≡◌, ℕ, ℤ, pos, ◌≤◌, List, [], length, ⊤}
use Rattle.seccompiler.specs.Machine.{IsChecked, Ends}
use Rattle.seccompiler.specs.Policy.{Filter, IsDecision}
use Rattle.seccompiler.specs.Reorder.{IsReordered, IsSameCall}
use Rattle.seccompiler.specs.declared.bpf.sock_filter.{sock_filter}
use Rattle.seccompiler_c.specs.Arguments.{IsArchitecture, IsNoArchitecture, OfArchitecture}
use Rattle.seccompiler_c.specs.Codes.{code_of, code_number}
use Rattle.seccompiler_c.specs.Messages.{HoldsMessage, TellsPolicyFault}
use Rattle.seccompiler_c.specs.Policies.{NamesPolicy, IsPolicyFault}
use Rattle.seccompiler_c.specs.declared.fault.Fault.{Fault}
use Rattle.seccompiler_c.specs.declared.fault.Fault.TheVariants.{OutOfMemory, UnknownArchitecture}
use Rattle.seccompiler_c.specs.declared.code.Code.TheVariants.{NotChecked}

-- A run of the program on the record returns this word, within as many steps as the program has instructions, and no
-- run of it returns another.
pub record Returns (program : List sock_filter) (call : List ℕ) (word : ℕ) : Type 0 where
  pub steps : ℕ
  pub ends : Ends program call steps word
  pub few : steps ≤ length program
  pub only : (n w : ℕ) → Ends program call n w → (n ≡ steps) × (w ≡ word)

-- What seccompiler_run answers: the first of these that is so.
pub data AnswersRun (program : List sock_filter) (call : List ℕ) (answer : ℤ) : Type 0 where
  not_checked : (IsChecked program → ⊥) → answer ≡ code_number NotChecked → AnswersRun program call answer
  returned : (word : ℕ) → IsChecked program → Returns program call word → answer ≡ pos word → AnswersRun program call answer

-- The policy names this word for the record, and no other; it names it as well if the rules of a chain or the
-- conditions of a rule stand in another order, and for every record that differs in the instruction pointer alone.
pub record Decides (call : List ℕ) (answer : ℤ) (policy : Filter) : Type 0 where
  pub word : ℕ
  pub told : answer ≡ pos word
  pub decision : IsDecision policy call word
  pub only : (w : ℕ) → IsDecision policy call w → w ≡ word
  pub order : (g : Filter) (s : List ℕ) → IsReordered policy g → IsSameCall call s → IsDecision g s word

-- Why there is no decision: for the first of these that is so. Lack of memory may come in place of all but the first.
abbrev pub IsUndecided : List ℕ → ℕ → List ℕ → Fault → Type 0
IsUndecided text architecture name OutOfMemory = OfArchitecture architecture (λ target. ⊤)
IsUndecided text architecture name UnknownArchitecture = IsNoArchitecture architecture
IsUndecided text architecture name f = OfArchitecture architecture (λ target. IsPolicyFault target text name f)

-- What seccompiler_decide answers, and what the message then holds: the word, and an empty sentence; or the code of why
-- there is none, and a sentence that tells it on that architecture.
pub data AnswersDecide (text : List ℕ) (architecture : ℕ) (name call : List ℕ) (answer : ℤ)
    (message_old message_new : List ℕ) : Type 0 where
  decided : OfArchitecture architecture (λ target. NamesPolicy target text name (Decides call answer))
      → HoldsMessage [] message_old message_new
      → AnswersDecide text architecture name call answer message_old message_new
  undecided : (fault : Fault) → IsUndecided text architecture name fault → answer ≡ code_of fault
      → TellsPolicyFault (IsArchitecture architecture) text fault message_old message_new
      → AnswersDecide text architecture name call answer message_old message_new
