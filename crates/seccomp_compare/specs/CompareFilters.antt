-- What a comparison of two filters says of the calls of a set, and why there is none.
use Rattle.std.specs.Prelude.{◌≡◌, ℕ, List}
use Rattle.seccompiler.specs.declared.bpf.sock_filter.{sock_filter}
use Rattle.seccompiler.specs.declared.backend.BackendError.{BackendError}
use Rattle.seccompiler.specs.declared.backend.BackendError.TheVariants.{OutOfMemory}
use Rattle.seccomp_compare.specs.declared.Relation.{Relation}
use Rattle.seccomp_compare.specs.declared.Comparison.{Comparison}
use Rattle.seccomp_compare.specs.declared.Comparison.TheVariants.{Holds, Fails, Undecided}
use Rattle.seccompiler.specs.Policy.{Filter, IsDecision}
use Rattle.seccompiler.specs.Compiled.{numbers_of, AreCallNumbers}
use Rattle.seccomp_tree.specs.Layouts.{IsFitting, IsFittingRefusal}
use Rattle.seccomp_compare.specs.Machine.{Ends}
use Rattle.seccomp_compare.specs.Compare.{CallSet, IsCallOf, Related}

-- Two filters name words for the record of which the relation holds.
pub record DecisionsRelated (relation : Relation) (f g : Filter) (r : List ℕ) : Type 0 where
  pub word : ℕ
  pub decision : IsDecision f r word
  pub other_word : ℕ
  pub other_decision : IsDecision g r other_word
  pub related : Related relation word other_word

-- Two filters name words for the record of which the relation doesn't hold.
pub record DecisionsUnrelated (relation : Relation) (f g : Filter) (r : List ℕ) : Type 0 where
  pub word : ℕ
  pub decision : IsDecision f r word
  pub other_word : ℕ
  pub other_decision : IsDecision g r other_word
  pub unrelated : Related relation word other_word → ⊥

-- What a comparison says of two filters: that the relation holds of their decisions on each of these calls; or a call of
-- them on which it doesn't; or nothing.
abbrev pub ComparesFilters : CallSet → Relation → Filter → Filter → Comparison → Type 0
ComparesFilters calls relation f g Holds = (r : List ℕ) → IsCallOf calls r → DecisionsRelated relation f g r
ComparesFilters calls relation f g (Fails r) = IsCallOf calls r × DecisionsUnrelated relation f g r
ComparesFilters calls relation f g Undecided = Unit {0}

-- A program returns a word for the record, and a filter names one, of which the relation holds.
pub record AnswerRelated (relation : Relation) (p : List sock_filter) (f : Filter) (r : List ℕ) : Type 0 where
  pub word : ℕ
  pub steps : ℕ
  pub ends : Ends p r steps word
  pub other_word : ℕ
  pub decision : IsDecision f r other_word
  pub related : Related relation word other_word

-- A program returns a word for the record, and a filter names one, of which the relation doesn't hold.
pub record AnswerUnrelated (relation : Relation) (p : List sock_filter) (f : Filter) (r : List ℕ) : Type 0 where
  pub word : ℕ
  pub steps : ℕ
  pub ends : Ends p r steps word
  pub other_word : ℕ
  pub decision : IsDecision f r other_word
  pub unrelated : Related relation word other_word → ⊥

-- What a comparison says of a program and a filter: that the relation holds of the word that the program returns and of the
-- filter's decision on each of these calls; or a call of them on which it doesn't; or nothing.
abbrev pub ComparesProgram : CallSet → Relation → List sock_filter → Filter → Comparison → Type 0
ComparesProgram calls relation p f Holds = (r : List ℕ) → IsCallOf calls r → AnswerRelated relation p f r
ComparesProgram calls relation p f (Fails r) = IsCallOf calls r × AnswerUnrelated relation p f r
ComparesProgram calls relation p f Undecided = Unit {0}

-- The filter may be compiled: its numbers are call numbers, and its tree fits, or else its linear program.
pub record IsCompilableInSome (f : Filter) : Type 0 where
  pub numbers : AreCallNumbers (numbers_of f.chains)
  pub program : List sock_filter
  pub fitting : IsFitting f program

-- Why two filters aren't compared: the refusal of the first; else, if that may be compiled, the refusal of the second;
-- else, if both may be, lack of memory.
pub data IsComparisonRefusal (f g : Filter) (e : BackendError) : Type 0 where
  of_first : IsFittingRefusal f e → IsComparisonRefusal f g e
  of_second : IsCompilableInSome f → IsFittingRefusal g e → IsComparisonRefusal f g e
  of_memory : IsCompilableInSome f → IsCompilableInSome g → e ≡ OutOfMemory → IsComparisonRefusal f g e
