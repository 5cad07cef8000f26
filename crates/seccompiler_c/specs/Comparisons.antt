-- What a comparison of two programs answers, and which place of a program isn't taken.
use Rattle.std.specs.Prelude.{◌≡◌, ◌≢◌, ◌≤◌, ℕ, ℤ, pos, List}
use Rattle.seccompiler.specs.Machine.{IsChecked, IsRecord, word_at}
use Rattle.seccomp_compare.specs.Compare.{AnswersRelated, AnswersUnrelated}
use Rattle.seccomp_compare.specs.Machine as compared
use Rattle.seccompiler.specs.FirstUnfit.{IsFirstUnfit}
use Rattle.seccompiler.specs.declared.bpf.sock_filter.{sock_filter}
use Rattle.seccomp_compare.specs.declared.Relation.{Relation}
use Rattle.seccomp_compare.specs.declared.Relation.TheVariants.{Alike, AtMostAsPermissive}
use Rattle.seccompiler_c.specs.Arguments.{IsNoArchitecture}
use Rattle.seccompiler_c.specs.Codes.{code_number}
use Rattle.seccompiler_c.specs.declared.comparison.Asked.{Asked}
use Rattle.seccompiler_c.specs.declared.code.Code.{Code}
use Rattle.seccompiler_c.specs.declared.code.Code.TheVariants.{OutOfMemory, UnknownArchitecture, UnknownRelation, NotChecked, Undecided}

-- The number of a relation.
abbrev pub relation_number : Relation → ℕ
relation_number Alike = 0
relation_number AtMostAsPermissive = 1

-- The number is no relation's.
abbrev pub IsNoRelation : ℕ → Type 0
IsNoRelation number = (relation : Relation) → number ≡ relation_number relation → ⊥

-- The record is one of the calls that are asked about: of all, by 0 in place of an architecture; or of those of an
-- architecture by its word, with numbers within two bounds, both included.
abbrev pub IsAsked : Asked → List ℕ → Type 0
IsAsked a r = IsRecord r
    × (a.architecture ≢ 0 → (word_at r 4 ≡ a.architecture) × (a.least ≤ word_at r 0) × (word_at r 0 ≤ a.greatest))

-- The word is neither an architecture's nor 0.
abbrev pub AreNoCalls : Asked → Type 0
AreNoCalls a = (a.architecture ≢ 0) × IsNoArchitecture a.architecture

-- What is asked of two programs: whether the relation of a number holds of what they return for each of these calls.
pub record Compared : Type 0 where
  pub program : List sock_filter
  pub other : List sock_filter
  pub relation : ℕ
  pub calls : Asked

-- Both programs may be run, the words name calls and a relation, and P holds of the relation.
abbrev pub OfRelation : Compared → (Relation → Type 0) → Type 0
OfRelation c P = (AreNoCalls c.calls → ⊥) × (compared.IsChecked c.program × compared.IsChecked c.other)
    × ((relation : Relation) × (c.relation ≡ relation_number relation) × P relation)

-- Why nothing is compared, or no answer is found: for the first of these that is so. Lack of memory and too few sets of
-- calls may come in place of an answer.
abbrev pub IsUncompared : Compared → Code → Type 0
IsUncompared c UnknownArchitecture = AreNoCalls c.calls
IsUncompared c UnknownRelation = (AreNoCalls c.calls → ⊥) × IsNoRelation c.relation
IsUncompared c NotChecked = (AreNoCalls c.calls → ⊥) × (IsNoRelation c.relation → ⊥)
    × (compared.IsChecked c.program × compared.IsChecked c.other → ⊥)
IsUncompared c OutOfMemory = OfRelation c (λ relation. Unit {0})
IsUncompared c Undecided = OfRelation c (λ relation. Unit {0})
IsUncompared c f = ⊥

-- What seccompiler_compare answers, and what the record then is: 1 if the relation holds for each call; 0 if it
-- doesn't for that of the record that is written; or a code. If nothing else is said the record is as it was.
pub data AnswersCompare (c : Compared) (old new : List ℕ) (answer : ℤ) : Type 0 where
  holds : OfRelation c (λ relation. (r : List ℕ) → IsAsked c.calls r → AnswersRelated relation c.program c.other r)
      → answer ≡ pos 1 → new ≡ old → AnswersCompare c old new answer
  fails : OfRelation c (λ relation. IsAsked c.calls new × AnswersUnrelated relation c.program c.other new)
      → answer ≡ pos 0 → AnswersCompare c old new answer
  uncompared : (code : Code) → IsUncompared c code → answer ≡ code_number code → new ≡ old → AnswersCompare c old new answer

-- What seccompiler_check_at answers, and what the place then is: 1 if the program may be run, and the place is as it
-- was; or 0, and the first place that isn't taken.
pub data AnswersCheckAt (program : List sock_filter) (old new : ℕ) (answer : ℤ) : Type 0 where
  checked : IsChecked program → answer ≡ pos 1 → new ≡ old → AnswersCheckAt program old new answer
  unchecked : IsFirstUnfit program new → answer ≡ pos 0 → AnswersCheckAt program old new answer
