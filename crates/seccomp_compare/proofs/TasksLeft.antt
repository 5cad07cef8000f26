-- For `tasks::compare_on`: tasks that are left.
use Rattle.std.proofs.Common.{ℕ, List, [], ◌∷◌, ◌++◌, ◌⊎◌, inl, inr, ⊎_elim}
use Rattle.seccompiler.specs.declared.bpf.sock_filter.{sock_filter}
use Rattle.seccompiler.specs.Machine.{IsRecord}
use Rattle.seccomp_compare.specs.declared.Relation.{Relation}
use Rattle.seccomp_compare.specs.declared.values.Values.{Values}
use Rattle.seccomp_compare.specs.declared.tasks.Task.{Task}
use Rattle.seccomp_compare.specs.RecordSets.{IsIn}
use Rattle.seccomp_compare.specs.Compare.{AnswersRelated}
use Rattle.seccomp_compare.specs.CompareTasks.{AreRelated, IsTask, AreParts, AreTasks, InSome}

-- one more task
pub tasks_push : (p q : List sock_filter) (part : List Values) (ts : List Task) (t : Task)
    → AreTasks p q part ts → IsTask p q t → ((r : List ℕ) → IsRecord r → IsIn t.part r → IsIn part r) → AreTasks p q part (ts ++ t ∷ [])
tasks_push p q part [] t all is back = (tt, is, back)
tasks_push p q part (s ∷ ts) t all is back = (tasks_push p q part ts t all.0 is back, all.1, all.2)

-- the last task, and those before it
pub tasks_pop : (p q : List sock_filter) (part : List Values) (ts : List Task) (t : Task)
    → AreTasks p q part (ts ++ t ∷ []) → AreTasks p q part ts × IsTask p q t × ((r : List ℕ) → IsRecord r → IsIn t.part r → IsIn part r)
tasks_pop p q part [] t all = all
tasks_pop p q part (s ∷ ts) t all = let rest = tasks_pop p q part ts t all.0 in ((rest.0, all.1, all.2), rest.1, rest.2)

-- a record of one of the tasks, with one task more
pub some_first : (ts : List Task) (t : Task) (r : List ℕ) → InSome ts r → InSome (ts ++ t ∷ []) r
some_first [] t r h = absurd h
some_first (s ∷ ts) t r h = ⊎_elim (λ here. inl here) (λ later. inr (some_first ts t r later)) h

-- a record of the last task
pub some_last : (ts : List Task) (t : Task) (r : List ℕ) → IsIn t.part r → InSome (ts ++ t ∷ []) r
some_last [] t r h = inl h
some_last (s ∷ ts) t r h = inr (some_last ts t r h)

-- a record of one of the tasks is of the last one or of those before it
pub some_pop : (ts : List Task) (t : Task) (r : List ℕ) → InSome (ts ++ t ∷ []) r → InSome ts r ⊎ IsIn t.part r
some_pop [] t r h = ⊎_elim (λ here. inr here) (λ none. absurd none) h
some_pop (s ∷ ts) t r h = ⊎_elim (λ here. inl (inl here)) (λ later. ⊎_elim (λ a. inl (inr a)) (λ b. inr b) (some_pop ts t r later)) h

-- of each record of the set the programs' words are related, or it lies in the set of a task that is left
abbrev pub AreLeft : Relation → List sock_filter → List sock_filter → List Values → List Task → Type 0
AreLeft relation p q part ts =
    AreTasks p q part ts × ((r : List ℕ) → IsRecord r → IsIn part r → AnswersRelated relation p q r ⊎ InSome ts r)

-- at first one task is left
pub left_first : (relation : Relation) (p q : List sock_filter) (t : Task) → IsTask p q t → AreLeft relation p q t.part ([] ++ t ∷ [])
left_first relation p q t is = ((tt, is, λ r rec inside. inside), λ r rec inside. inr (inl inside))

-- a task of whose records all words are related is done
pub left_done : (relation : Relation) (p q : List sock_filter) (part : List Values) (ts : List Task) (t : Task)
    → AreLeft relation p q part (ts ++ t ∷ []) → AreRelated relation p q t.part → AreLeft relation p q part ts
left_done relation p q part ts t left done = (
  (tasks_pop p q part ts t left.0).0,
  λ r rec inside.
      ⊎_elim
      (λ related. inl related)
      (λ some. ⊎_elim (λ others. inr others) (λ here. inl (done.each r rec here)) (some_pop ts t r some))
      (left.1 r rec inside),
)

-- a task in two parts
pub left_split : (relation : Relation) (p q : List sock_filter) (part : List Values) (ts : List Task) (t low high : Task)
    → AreLeft relation p q part (ts ++ t ∷ []) → AreParts p q t.part low high → AreLeft relation p q part (ts ++ high ∷ [] ++ low ∷ [])
left_split relation p q part ts t low high left parts =
    let popped = tasks_pop p q part ts t left.0 in
    let with_high = tasks_push p q part ts high popped.0 parts.high (λ r rec h. popped.2 r rec (parts.from_high r rec h)) in (
      tasks_push p q part (ts ++ high ∷ []) low with_high parts.low (λ r rec l. popped.2 r rec (parts.from_low r rec l)),
      λ r rec inside.
          ⊎_elim
          (λ related. inl related)
          (λ some.
          ⊎_elim
          (λ others. inr (some_first (ts ++ high ∷ []) low r (some_first ts high r others)))
          (λ here.
          ⊎_elim
          (λ l. inr (some_last (ts ++ high ∷ []) low r l))
          (λ h. inr (some_first (ts ++ high ∷ []) low r (some_last ts high r h)))
          (parts.cover r rec here))
          (some_pop ts t r some))
          (left.1 r rec inside),
    )
