-- For `JsonCompiler::make_seccomp_filter`: the conditions of an entry: nothing is wrong with them, or one fault is their first.
use Rattle.std.proofs.Common.{◌≡◌, ◌≤◌, ◌<◌, List, [], ◌∷◌, refl, ◌⊎◌, inl, inr, arith}
use Rattle.std.proofs.lemmas.Bool.{cases_lt}
use Rattle.std.proofs.lemmas.List.Elements.{All-weaker}
use Rattle.seccompiler.specs.declared.backend.BackendError.TheVariants.{EmptyRule, InvalidArgumentNumber}
use Rattle.seccompiler.specs.declared.json.types.JsonCondition.{JsonCondition}
use Rattle.seccompiler.specs.JsonPolicyOf.{Fault, refused, AreFineArgs, IsFaultIn, index_above, empty_args}
use Rattle.seccompiler.proofs.Searches.{none_is_any, all_or_any}

-- Nothing is wrong with conditions, or some fault is their first.
pub fine_or_fault_in : (cs : List JsonCondition) → AreFineArgs cs ⊎ ((fault : Fault) × IsFaultIn cs fault)
fine_or_fault_in [] = inr (refused EmptyRule, empty_args refl refl)
fine_or_fault_in (c ∷ cs) = elim (all_or_any (λ (c : JsonCondition). c.arg_index ≤ 5)
    (λ c. 5 < c.arg_index) (λ c. elim (cases_lt 5 c.arg_index) [ inl above ↦ inr above | inr small ↦ inl small ]) (c ∷ cs)) [
      | inl within ↦ inl (record { indices = within; some = λ e. cc })
      | inr above ↦ inr (refused InvalidArgumentNumber, index_above above refl)
    ]

-- No fault is in conditions with which nothing is wrong.
pub not_both_in : (cs : List JsonCondition) (fault : Fault) → AreFineArgs cs → IsFaultIn cs fault → ⊥
not_both_in cs fault fine wrong = grind (arith, none_is_any, All-weaker)

-- Conditions have one first fault.
pub one_fault_in : (cs : List JsonCondition) (a b : Fault) → IsFaultIn cs a → IsFaultIn cs b → a ≡ b
one_fault_in cs a b first second = grind arith
