-- For `limits`: the kept arguments that are left, and the observations that differ, as these are gone through.
use Rattle.std.proofs.Common.{◌≡◌, ◌<◌, ◌+◌, ◌⊎◌, inl, inr, ℕ, List, [], ◌∷◌, ◌++◌, All, AllPairs, length, get_or, refl, take, subst, sym}
use Rattle.std.specs.Prelude.{Any, Contains}
use Rattle.std.proofs.lemmas.List.Elements.{All-contains, All-more, All-push, All-same, All-weaker}
use Rattle.std.proofs.lemmas.List.Elements.{Contains-append_left, Contains-get_or, Contains-push}
use Rattle.std.proofs.lemmas.List.Quantifiers.{all_pairs_push}
use Rattle.seccomp_learn.specs.Observed.{HasFewValues, HasMoreValues, IsSeenAlike, IsSeenApart}
use Rattle.seccomp_learn.proofs.Quantified.{any_push}
use Rattle.seccomp_learn.specs.declared.observation.Kept.{Kept}
use Rattle.seccomp_learn.specs.declared.observation.Observation.{Observation}

module _ (limit : ℕ) (kept : List Kept) (observed : List Observation) where
  -- The argument is left, or its call has too many values.
  abbrev IsSettled : List Kept → Kept → Type 0
  IsSettled left each = Contains left each ⊎ HasMoreValues limit kept observed each.number

  -- One more argument, of a call that has too many values.
  pub dropped_more : (left : List Kept) (i : ℕ) (d : Kept) → i < length kept → All (IsSettled left) (take i kept)
      → HasMoreValues limit kept observed (get_or kept i d).number → All (IsSettled left) (take (i + 1) kept)
  dropped_more left i d within so_far more = All-more (IsSettled left) kept i d within so_far (inr more)

  -- One more argument, which is left.
  pub left_more : (left new : List Kept) (i : ℕ) (d : Kept) → i < length kept → new ≡ left ++ get_or kept i d ∷ []
      → All (IsSettled left) (take i kept) → All (IsSettled new) (take (i + 1) kept)
  left_more left new i d within is so_far =
      let grown = left ++ get_or kept i d ∷ [] in
      let before = All-weaker (IsSettled left) (IsSettled grown) (λ x settled. elim settled [
        | inl there ↦ inl (Contains-append_left left (get_or kept i d ∷ []) x there)
        | inr more ↦ inr more
      ]) (take i kept) so_far in
      subst (λ (l : List Kept). All (IsSettled l) (take (i + 1) kept)) (sym is)
      (All-more (IsSettled grown) kept i d within before (inl (Contains-push left (get_or kept i d))))

  -- One more argument that is left, of a call with few values.
  pub few_more : (left new : List Kept) (i : ℕ) (d : Kept) → new ≡ left ++ get_or kept i d ∷ []
      → All (λ each. HasFewValues limit kept observed each.number) left
      → HasFewValues limit kept observed (get_or kept i d).number
      → All (λ each. HasFewValues limit kept observed each.number) new
  few_more left new i d is so_far few =
      let of = λ (each : Kept). HasFewValues limit kept observed each.number in
      All-same of new _ is (All-push of left (get_or kept i d) so_far few)

-- What is left is among what there was.
pub among_more : {X : Type 0} (all left new : List X) (i : ℕ) (d : X) → i < length all → new ≡ left ++ get_or all i d ∷ []
    → All (Contains all) left → All (Contains all) new
among_more all left new i d within is so_far =
    All-same (Contains all) new _ is (All-push (Contains all) left (get_or all i d) so_far (Contains-get_or all i d within))

module _ (kept : List Kept) (observed : List Observation) (number : ℕ) where
  -- An observation of the call.
  abbrev IsOfCall : Observation → Type 0
  IsOfCall o = Contains observed o × (o.number ≡ number)

  -- One more observation of the call, which differs from the others.
  pub different_more : (different new : List Observation) (i : ℕ) (d : Observation) → i < length observed
      → new ≡ different ++ get_or observed i d ∷ [] → (get_or observed i d).number ≡ number → All IsOfCall different
      → All IsOfCall new
  different_more different new i d within is of_call so_far =
      All-same IsOfCall new _ is (All-push IsOfCall different (get_or observed i d) so_far (Contains-get_or observed i d within, of_call))

  pub apart_more : (different others new : List Observation) (o : Observation) → new ≡ different ++ o ∷ [] → others ≡ different
      → AllPairs (IsSeenApart kept) different → All (λ other. IsSeenApart kept other o) others → AllPairs (IsSeenApart kept) new
  apart_more different others new o is same so_far apart =
      subst (AllPairs (IsSeenApart kept)) (sym is) (all_pairs_push (IsSeenApart kept) different o so_far
      (subst (All (λ other. IsSeenApart kept other o)) same apart))

  -- One more observation of the call among its own.
  pub gathered_more : (own new : List Observation) (i : ℕ) (d : Observation) → i < length observed
      → new ≡ own ++ get_or observed i d ∷ []
      → All (λ (o : Observation). o.number ≡ number → Contains own o) (take i observed)
      → All (λ (o : Observation). o.number ≡ number → Contains new o) (take (i + 1) observed)
  gathered_more own new i d within is so_far =
      let grown = own ++ get_or observed i d ∷ [] in
      let before = All-weaker (λ (o : Observation). o.number ≡ number → Contains own o)
      (λ (o : Observation). o.number ≡ number → Contains grown o)
      (λ o there of_call. Contains-append_left own (get_or observed i d ∷ []) o (there of_call)) (take i observed) so_far in
      subst (λ (all : List Observation). All (λ (o : Observation). o.number ≡ number → Contains all o) (take (i + 1) observed)) (sym is)
      (All-more (λ (o : Observation). o.number ≡ number → Contains grown o) observed i d within before
      (λ _. Contains-push own (get_or observed i d)))

  -- One more observation, of another call.
  pub passed_more : (own : List Observation) (i : ℕ) (d : Observation) → i < length observed
      → ((get_or observed i d).number ≡ number → ⊥)
      → All (λ (o : Observation). o.number ≡ number → Contains own o) (take i observed)
      → All (λ (o : Observation). o.number ≡ number → Contains own o) (take (i + 1) observed)
  passed_more own i d within other so_far =
      All-more (λ (o : Observation). o.number ≡ number → Contains own o) observed i d within so_far (λ of_call. absurd (other of_call))

module _ (kept : List Kept) (own : List Observation) where
  abbrev IsLike : List Observation → Observation → Type 0
  IsLike different o = Any (λ other. IsSeenAlike kept other o) different

  like_itself : (o : Observation) → IsSeenAlike kept o o
  like_itself o = λ k d within same. refl

  -- One more observation, which differs from the others.
  pub alike_more : (different new : List Observation) (i : ℕ) (d : Observation) → i < length own
      → new ≡ different ++ get_or own i d ∷ [] → All (IsLike different) (take i own) → All (IsLike new) (take (i + 1) own)
  alike_more different new i d within is so_far =
      let o = get_or own i d in
      let grown = different ++ o ∷ [] in
      let before = All-weaker (IsLike different) (IsLike grown)
      (λ x like. (any_push (λ other. IsSeenAlike kept other x) different o).1 (inl like)) (take i own) so_far in
      subst (λ (all : List Observation). All (IsLike all) (take (i + 1) own)) (sym is)
      (All-more (IsLike grown) own i d within before
      ((any_push (λ other. IsSeenAlike kept other o) different o).1 (inr (like_itself o))))

  -- One more observation, which is like one of the others.
  pub alike_same : (different others : List Observation) (i : ℕ) (d : Observation) → i < length own → others ≡ different
      → Any (λ other. IsSeenAlike kept other (get_or own i d)) others → All (IsLike different) (take i own)
      → All (IsLike different) (take (i + 1) own)
  alike_same different others i d within same like so_far =
      All-more (IsLike different) own i d within so_far
      (subst (λ (all : List Observation). Any (λ other. IsSeenAlike kept other (get_or own i d)) all) same like)

-- What is among a call's own observations is of the call.
pub own_all : (observed : List Observation) (number : ℕ) (own different : List Observation) → All (Contains own) different
    → All (λ (o : Observation). Contains observed o × (o.number ≡ number)) own
    → All (λ (o : Observation). Contains observed o × (o.number ≡ number)) different
own_all observed number own different among of_call =
    All-weaker (Contains own) (λ (o : Observation). Contains observed o × (o.number ≡ number))
    (λ o. All-contains (λ (o : Observation). Contains observed o × (o.number ≡ number)) own o of_call) different among

-- What each of a call's own observations is like, each observation of the call is.
pub alike_all : (kept : List Kept) (observed : List Observation) (number : ℕ) (own different : List Observation)
    → All (λ (o : Observation). o.number ≡ number → Contains own o) observed
    → All (λ (o : Observation). Any (λ other. IsSeenAlike kept other o) different) own
    → All (λ (o : Observation). o.number ≡ number → Any (λ other. IsSeenAlike kept other o) different) observed
alike_all kept observed number own different there alike =
    All-weaker (λ (o : Observation). o.number ≡ number → Contains own o)
    (λ (o : Observation). o.number ≡ number → Any (λ other. IsSeenAlike kept other o) different)
    (λ o within is. All-contains (λ (o : Observation). Any (λ other. IsSeenAlike kept other o) different) own o alike (within is))
    observed there
