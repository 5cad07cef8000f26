-- What is left to do of a comparison of two programs: sets of records, and where both programs stand on them.
use Rattle.std.specs.Prelude.{ℕ, ◌⊎◌, List, [], ◌∷◌}
use Rattle.seccompiler.specs.declared.bpf.sock_filter.{sock_filter}
use Rattle.seccomp_compare.specs.declared.Relation.{Relation}
use Rattle.seccomp_compare.specs.declared.Stop.{Stop}
use Rattle.seccomp_compare.specs.declared.End.{End}
use Rattle.seccomp_compare.specs.declared.End.TheVariants.{Holds, Fails, Stops}
use Rattle.seccomp_compare.specs.declared.values.Values.{Values}
use Rattle.seccomp_compare.specs.declared.tasks.Task.{Task}
use Rattle.seccomp_compare.specs.declared.tasks.Progress.{Progress}
use Rattle.seccomp_compare.specs.declared.tasks.Progress.TheVariants.{Done, Shows, Splits}
use Rattle.seccompiler.specs.Machine.{IsRecord}
use Rattle.seccomp_compare.specs.Compare.{AnswersRelated, AnswersUnrelated, ComesTo}
use Rattle.seccomp_compare.specs.RecordSets.{IsIn, AreTight, Stands}

-- The relation holds of the programs' words for each record of the set.
pub record AreRelated (relation : Relation) (p q : List sock_filter) (part : List Values) : Type 0 where
  pub each : (r : List ℕ) → IsRecord r → IsIn part r → AnswersRelated relation p q r

-- It doesn't hold for this record of the set.
pub record ShowsUnrelated (relation : Relation) (p q : List sock_filter) (part : List Values) (r : List ℕ) : Type 0 where
  pub record_is : IsRecord r
  pub within : IsIn part r
  pub unrelated : AnswersUnrelated relation p q r

-- Both programs come to these places on this record of the set.
pub record StopsWithin (p q : List sock_filter) (part : List Values) (s : Stop) : Type 0 where
  pub record_is : IsRecord s.call
  pub within : IsIn part s.call
  pub comes : ComesTo p s.call s.place
  pub other_comes : ComesTo q s.call s.other_place

-- What each end says of two programs on the records of a set.
abbrev pub EndsWithin : Relation → List sock_filter → List sock_filter → List Values → End → Type 0
EndsWithin relation p q part Holds = AreRelated relation p q part
EndsWithin relation p q part (Fails r) = ShowsUnrelated relation p q part r
EndsWithin relation p q part (Stops s) = StopsWithin p q part s

-- Both programs stand where the task says, and its set is tight.
pub record IsTask (p q : List sock_filter) (t : Task) : Type 0 where
  pub p_stands : Stands p t.part t.p_at
  pub q_stands : Stands q t.part t.q_at
  pub tight : AreTight t.part

-- Two tasks whose sets have the records of the set, and no others.
pub record AreParts (p q : List sock_filter) (part : List Values) (a b : Task) : Type 0 where
  pub low : IsTask p q a
  pub high : IsTask p q b
  pub cover : (r : List ℕ) → IsRecord r → IsIn part r → IsIn a.part r ⊎ IsIn b.part r
  pub from_low : (r : List ℕ) → IsRecord r → IsIn a.part r → IsIn part r
  pub from_high : (r : List ℕ) → IsRecord r → IsIn b.part r → IsIn part r

-- What comes of a set.
abbrev pub IsProgress : Relation → List sock_filter → List sock_filter → List Values → Progress → Type 0
IsProgress relation p q part Done = AreRelated relation p q part
IsProgress relation p q part (Shows r) = ShowsUnrelated relation p q part r
IsProgress relation p q part (Splits a b) = AreParts p q part a b

-- Each task is one of this set.
abbrev pub AreTasks : List sock_filter → List sock_filter → List Values → List Task → Type 0
AreTasks p q part [] = Unit {0}
AreTasks p q part (t ∷ tasks) = AreTasks p q part tasks × IsTask p q t × ((r : List ℕ) → IsRecord r → IsIn t.part r → IsIn part r)

-- The record lies in the set of one of the tasks.
abbrev pub InSome : List Task → List ℕ → Type 0
InSome [] r = ⊥
InSome (t ∷ tasks) r = IsIn t.part r ⊎ InSome tasks r
