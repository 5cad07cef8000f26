-- For `rules` and `policy`: which records meet entries, as these are added, left out and put into order.
use Rattle.std.proofs.Common.{◌≡◌, ◌↔◌, ◌⊎◌, inl, inr, ℕ, pos, List, [], ◌∷◌, ◌++◌, Some, All, ◌∙◌, sym, ap}
use Rattle.std.specs.Prelude.{Any}
use Rattle.std.specs.List.Sorted.{IsPermutation}
use Rattle.seccompiler.specs.Architecture.{table_of}
use Rattle.seccompiler.specs.JsonEntries.{ConditionsHold, MeetsEntry, PoliciesMatchEntries}
use Rattle.seccompiler.specs.JsonPolicyOf.{IsPolicyOf}
use Rattle.seccompiler.specs.Policy.{Filter, Matches}
use Rattle.seccompiler.specs.JsonTypes.{JsonFilter, JsonRule}
use Rattle.seccompiler.specs.Machine.{word_at}
use Rattle.seccompiler.specs.SyscallTable.{number_of}
use Rattle.seccompiler.specs.declared.backend.TargetArch.{TargetArch}
use Rattle.seccomp_learn.specs.Observed.{HasSeenValue, IsAsNamed}
use Rattle.seccomp_learn.specs.Parts.{MeetAlike, MeetAlso, MeetsSome}
use Rattle.seccomp_learn.specs.declared.observation.Kept.{Kept}
use Rattle.seccomp_learn.specs.declared.observation.Observation.{Observation}
use Rattle.seccomp_learn.proofs.Quantified.{any_push, any_permuted}

-- Both ways through a step.
pub through : {A B C : Type 0} → (A ↔ B) → (B ↔ C) → A ↔ C
through first second = (λ a. second.0 (first.0 a), λ c. first.1 (second.1 c))

-- One more of two.
pub either_more : {A B C : Type 0} → (A ↔ B) → (A ⊎ C) ↔ (B ⊎ C)
either_more same = (
  λ e. elim e [ inl a ↦ inl (same.0 a) | inr c ↦ inr c ],
  λ e. elim e [ inl b ↦ inl (same.1 b) | inr c ↦ inr c ],
)

pub either_moved : {A B C : Type 0} → ((A ⊎ B) ⊎ C) ↔ (A ⊎ (B ⊎ C))
either_moved = (
  λ e. elim e [ inl ab ↦ elim ab [ inl a ↦ inl a | inr b ↦ inr (inl b) ] | inr c ↦ inr (inr c) ],
  λ e. elim e [ inl a ↦ inl (inl a) | inr bc ↦ elim bc [ inl b ↦ inl (inr b) | inr c ↦ inr c ] ],
)

pub either_same : {A B C : Type 0} → (B ↔ C) → (A ⊎ B) ↔ (A ⊎ C)
either_same same = (
  λ e. elim e [ inl a ↦ inl a | inr b ↦ inr (same.0 b) ],
  λ e. elim e [ inl a ↦ inl a | inr c ↦ inr (same.1 c) ],
)

pub turned : {A B : Type 0} → (A ↔ B) → B ↔ A
turned same = (same.1, same.0)

-- One more entry adds the records that meet it.
pub also_pushed : (rules : List JsonRule) (rule : JsonRule) → MeetAlso rule rules (rules ++ rule ∷ [])
also_pushed rules rule = record { also = λ arch r. any_push (MeetsEntry arch r) rules rule }

-- One more of the entries that are looked at.
pub alike_more : (seen left new : List JsonRule) (rule : JsonRule) → MeetAlike seen left → MeetAlso rule left new
    → MeetAlike (seen ++ rule ∷ []) new
alike_more seen left new rule so_far more = record {
  alike = λ arch r. through (more.also arch r)
      (through (either_more (so_far.alike arch r)) (turned (any_push (MeetsEntry arch r) seen rule)));
}

-- Entries in another order.
pub alike_permuted : (rules sorted left : List JsonRule) → IsPermutation rules sorted → MeetAlike sorted left → MeetAlike rules left
alike_permuted rules sorted left moved same = record {
  alike = λ arch r. through (same.alike arch r) (any_permuted (MeetsEntry arch r) rules sorted moved);
}

-- The entry of an observed call is met by what is as it was observed.
pub entry_as_named : (arch : TargetArch) (kept : List Kept) (o : Observation) (rule : JsonRule) (r : List ℕ)
    → number_of (table_of arch) rule.syscall ≡ Some (pos o.number)
    → (ConditionsHold r rule.conditions ↔ All (HasSeenValue r o) kept)
    → MeetsEntry arch r rule ↔ IsAsNamed arch kept r o
entry_as_named arch kept o rule r is hold = (there, back)
  where
    there : MeetsEntry arch r rule → IsAsNamed arch kept r o
    there meets =
        let number : Some (pos (word_at r 0)) ≡ Some (pos o.number) = sym meets.call ∙ is in
        let call : word_at r 0 ≡ o.number = cc in
        record { named = (rule.syscall, is); observed = record { call = call; arguments = hold.0 meets.conditions } }

    back : IsAsNamed arch kept r o → MeetsEntry arch r rule
    back named =
        record {
          call = is ∙ ap (λ n. Some (pos n)) (sym named.observed.call);
          conditions = hold.1 named.observed.arguments;
        }

-- One more observed call.
pub observed_more : (arch : TargetArch) (kept : List Kept) (r : List ℕ) (old rules new : List JsonRule) (seen : List Observation)
    (o : Observation) → (MeetsSome arch r rules ↔ (MeetsSome arch r old ⊎ Any (IsAsNamed arch kept r) seen))
    → (MeetsSome arch r new ↔ (MeetsSome arch r rules ⊎ IsAsNamed arch kept r o))
    → MeetsSome arch r new ↔ (MeetsSome arch r old ⊎ Any (IsAsNamed arch kept r) (seen ++ o ∷ []))
observed_more arch kept r old rules new seen o so_far more =
    through more (through (either_more so_far) (through either_moved (either_same (turned (any_push (IsAsNamed arch kept r) seen o)))))

-- The policy of what is learned, by its entries.
pub learned_matches : (arch : TargetArch) (kept : List Kept) (observed : List Observation) (old json : JsonFilter) (filter : Filter)
    (rules : List JsonRule) → PoliciesMatchEntries arch → IsPolicyOf arch json filter → MeetAlike rules json.rules
    → ((r : List ℕ) → MeetsSome arch r rules ↔ (MeetsSome arch r old.rules ⊎ Any (IsAsNamed arch kept r) observed))
    → (before : Filter) → IsPolicyOf arch old before
    → (r : List ℕ) → Matches filter r ↔ (Matches before r ⊎ Any (IsAsNamed arch kept r) observed)
learned_matches arch kept observed old json filter rules entries policy alike pushed before was r =
    through (entries json filter policy r)
    (through (alike.alike arch r) (through (pushed r) (either_more (turned (entries old before was r)))))
