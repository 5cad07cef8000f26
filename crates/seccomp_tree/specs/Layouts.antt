-- What is said of a filter and its program in either layout.
use Rattle.std.specs.Prelude.{ℕ, List, codes}
use Rattle.seccompiler.specs.declared.backend.BackendError.{BackendError}
use Rattle.seccompiler.specs.declared.backend.BackendError.TheVariants as backend
use Rattle.seccompiler.specs.declared.bpf.sock_filter.{sock_filter}
use Rattle.seccompiler.specs.Machine.{IsRecord, Ends}
use Rattle.seccompiler.specs.Policy.{Filter}
use Rattle.seccompiler.specs.Texts.{backend_text}
use Rattle.seccompiler.specs.Compiled.{AreCallNumbers, EndsAtDecision, IsCompilable, IsCompiled, IsLeastUnfit, IsTooLarge, numbers_of}
use Rattle.seccomp_tree.specs.declared.error.FilterError.{FilterError}
use Rattle.seccomp_tree.specs.declared.error.FilterError.TheVariants.{FilterTooLarge, InvalidSyscallNumber, OutOfMemory, TreeTooLarge}
use Rattle.seccomp_tree.specs.declared.error.TreeError.TheVariants.{TooLarge}
use Rattle.seccomp_tree.specs.declared.layout.Layout.{Layout}
use Rattle.seccomp_tree.specs.declared.layout.Layout.TheVariants.{Linear, Tree}
use Rattle.seccomp_tree.specs.TreeProgram.{IsTreeProgram, IsTooLargeFor}
use Rattle.seccomp_tree.specs.FilterDecisions.{decisions_of}

-- The program returns for every call record what the filter decides.
abbrev pub Decides : Filter → List sock_filter → Type 0
Decides f p = (r : List ℕ) → IsRecord r → EndsAtDecision f p r

-- The program is compiled for the filter as a tree: it decides every call record, and is the program of the filter's
-- decisions, so it may be run, is soon done and is short.
pub record IsTreeCompiled (f : Filter) (p : List sock_filter) : Type 0 where
  pub decides : Decides f p
  pub tree : IsTreeProgram (decisions_of f) p

-- The program is compiled for the filter in the layout.
abbrev pub IsCompiledIn : Layout → Filter → List sock_filter → Type 0
IsCompiledIn Linear f p = IsCompiled f p
IsCompiledIn Tree f p = IsTreeCompiled f p

-- All its numbers are call numbers, but the bound on the length of the tree is more than the greatest length.
pub record IsTreeTooLarge (f : Filter) : Type 0 where
  pub numbers : AreCallNumbers (numbers_of f.chains)
  pub large : IsTooLargeFor (decisions_of f) TooLarge

-- Each refusal of a filter in the layout has its own cause: the least number that is no call number; else the
-- length. OutOfMemory comes only if the filter may be compiled, or for a tree if all are call numbers.
abbrev pub IsRefusalIn : Layout → Filter → FilterError → Type 0
IsRefusalIn layout f (InvalidSyscallNumber n) = IsLeastUnfit (numbers_of f.chains) n
IsRefusalIn Linear f (FilterTooLarge n) = IsTooLarge f n
IsRefusalIn Linear f OutOfMemory = IsCompilable f
IsRefusalIn Linear f TreeTooLarge = ⊥
IsRefusalIn Tree f (FilterTooLarge n) = ⊥
IsRefusalIn Tree f OutOfMemory = AreCallNumbers (numbers_of f.chains)
IsRefusalIn Tree f TreeTooLarge = IsTreeTooLarge f

-- Two programs return one word for the record, each after some steps.
abbrev pub AnswerAlike : List sock_filter → List sock_filter → List ℕ → Type 0
AnswerAlike p q r = (word : ℕ) × (steps : ℕ) × (other_steps : ℕ) × Ends p r steps word × Ends q r other_steps word

-- The program answers every call record as whatever is compiled for the filter, in any layout.
abbrev pub AgreesInAll : Filter → List sock_filter → Type 0
AgreesInAll f p = (layout : Layout) (q : List sock_filter) → IsCompiledIn layout f q → (r : List ℕ) → IsRecord r → AnswerAlike p q r

-- The program is the filter's tree, or, if that is too large, its linear program.
pub data IsFitting (f : Filter) (p : List sock_filter) : Type 0 where
  as_tree : IsTreeCompiled f p → IsFitting f p
  as_linear : IsTreeTooLarge f → IsCompiled f p → IsFitting f p

-- Why neither layout gives a program: the least number that is no call number; else that the tree is too large, and the
-- linear program of n instructions too; and lack of memory comes only if all numbers are call numbers.
abbrev pub IsFittingRefusal : Filter → BackendError → Type 0
IsFittingRefusal f (backend.FilterTooLarge n) = IsTreeTooLarge f × IsTooLarge f n
IsFittingRefusal f (backend.InvalidSyscallNumber n) = IsLeastUnfit (numbers_of f.chains) n
IsFittingRefusal f backend.OutOfMemory = AreCallNumbers (numbers_of f.chains)
IsFittingRefusal f _ = ⊥

-- The text of a filter's refusal: the library's own, but for a tree.
abbrev pub filter_text : FilterError → List ℕ
filter_text (InvalidSyscallNumber n) = backend_text (backend.InvalidSyscallNumber n)
filter_text (FilterTooLarge n) = backend_text (backend.FilterTooLarge n)
filter_text TreeTooLarge = codes "The seccomp filter contains too many BPF instructions as a tree. Max length is 4096."
filter_text OutOfMemory = backend_text backend.OutOfMemory
