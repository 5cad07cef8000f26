-- For `actions_of`: the actions that have a part, as one more is looked at.
use Rattle.std.proofs.Common.{◌≢◌, ◌⊎◌, List, [], ◌∷◌, ◌++◌, arith, inl, inr, subst, sym, ⊎_elim}
use Rattle.std.specs.Prelude.{Contains}
use Rattle.std.proofs.lemmas.List.Elements.{Contains-append_left, Contains-get_or, Contains-push, Contains-push_cases}
use Rattle.std.proofs.lemmas.List.Quantifiers.{all_pairs_push}
use Rattle.seccomp_entries.specs.declared.entry.Action.{Action}
use Rattle.seccomp_warnings.specs.ProfileParts.{AllowBoth, AreActions}

-- Before the first.
pub nothing : (default : Action) → AreActions default [] []
nothing default = record {
  exactly = λ a. (
    λ there. let within = there.1 in absurd (omega (arith, within)),
    λ has. let within = has.0.1 in absurd (omega (arith, within)),
  );
  once = λ i j d less within. absurd (omega (arith, less, within));
}

module _ (default : Action) (asked actions : List Action) (a : Action) (are : AreActions default asked actions) where
  still : (b : Action) → Contains actions b → Contains (asked ++ a ∷ []) b × (AllowBoth default b → ⊥)
  still b there = let own = (are.exactly b).0 there in (Contains-append_left asked (a ∷ []) b own.0, own.1)

  -- One that has none, or that is known.
  pub known : AllowBoth default a ⊎ Contains actions a → AreActions default (asked ++ a ∷ []) actions
  known either = record {
    exactly = λ b. (
      still b,
      λ has. ⊎_elim (λ old. (are.exactly b).1 (old, has.1))
          (λ same.
          ⊎_elim (λ both. absurd (has.1 (subst (AllowBoth default) same both))) (λ there. subst (Contains actions) same there) either)
          (Contains-push_cases asked a b has.0),
    );
    once = are.once;
  }

  -- A new one.
  pub more : (AllowBoth default a ⊎ Contains actions a → ⊥) → AreActions default (asked ++ a ∷ []) (actions ++ a ∷ [])
  more new = record {
    exactly = λ b. (
      λ there. ⊎_elim (still b)
          (λ same. (
            subst (Contains (asked ++ a ∷ [])) same (Contains-push asked a),
            λ both. new (inl (subst (AllowBoth default) (sym same) both)),
          ))
          (Contains-push_cases actions a b there),
      λ has. ⊎_elim (λ old. Contains-append_left actions (a ∷ []) b ((are.exactly b).1 (old, has.1)))
          (λ same. subst (Contains (actions ++ a ∷ [])) same (Contains-push actions a)) (Contains-push_cases asked a b has.0),
    );
    once = all_pairs_push (λ x y. x ≢ y) actions a are.once
        (λ k d within same. new (inr (subst (Contains actions) same (Contains-get_or actions k d within))));
  }
