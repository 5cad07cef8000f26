-- For `push_rank` and `entries_of`: the entries that are asked before a place of a rank, as more are added.
use Rattle.std.proofs.Common.{◌≡◌, ◌≢◌, ◌<◌, ◌+◌, ◌⊎◌, ℕ, List, [], ◌++◌, length, get_or, sym, subst, ap, ◌∙◌, arith, inl, inr}
use Rattle.std.specs.List.{AllZip}
use Rattle.std.proofs.lemmas.List.Elements.{All-append, All-nil, Contains-append_cases, Contains-append_left, Contains-append_right}
use Rattle.seccomp_entries.specs.declared.entry.Action.{Action}
use Rattle.seccomp_profiles.specs.declared.types.Abi.{Abi}
use Rattle.seccomp_entries.specs.Entries as entries
use Rattle.seccomp_profiles.specs.Concerns.{AreAskedTo, Concern, IsAskedTo, IsConcernOf, IsPushed, entries_for, passed_over, pushed}
use Rattle.seccomp_profiles.specs.Abis.{end_for}
use Rattle.seccomp_profiles.specs.Decision.{rank}
use Rattle.seccomp_profiles.specs.Lowered.{IsAskedBefore, IsOwn, by_place, by_rank, rank_in}
use Rattle.seccomp_profiles.specs.Types.{Container, Entry}
use Rattle.seccomp_profiles.proofs.Least.{same_at, up_to}
use Rattle.seccomp_profiles.proofs.Zipped.{zip_at, zip_length}
use Rattle.seccomp_profiles.proofs.lowered.Own.{own_rank, said_below, said_has, said_only, said_ordered}
use Rattle.seccomp_profiles.proofs.lowered.Pairs.{had_none, pairs_append, pairs_none}

module _ (abi : Abi) (container : Container) (default : Action) (own : List Entry) where
  abbrev Are : ℕ → ℕ → List entries.Entry → Type 0
  Are = AreAskedTo abi container default own

  abbrev Own : entries.Entry → Type 0
  Own = IsOwn abi container default own

  abbrev rank_of : entries.Entry → ℕ
  rank_of e = rank_in e.conditions e.action

  pub none_asked : Are 0 0 []
  none_asked = record {
    exactly = λ e. (λ has. absurd (had_none e has), λ is. absurd (elim is.1 [ inl less ↦ omega arith | inr same ↦ omega (arith, same.1) ]));
    ordered = pairs_none IsAskedBefore;
    below = All-nil (λ e. e.number < end_for abi);
  }

  -- Of one rank all are asked.
  pub next_rank : (s i : ℕ) (all : List entries.Entry) → i ≡ length own → Are s i all → Are (s + 1) 0 all
  next_rank s i all whole are = record {
    exactly = λ e. (
      λ has. let is = (are.exactly e).0 has in (is.0, elim is.1 [ inl less ↦ inl (omega arith) | inr same ↦ inl (omega (arith, same.0)) ]),
      λ is. (are.exactly e).1 (
        is.0,
        elim is.1 [
          | inl less ↦ up_to (rank_of e) s (IsAskedTo s i e) less (λ small. inl small) (λ same. inr (same, omega (arith, is.0.within)))
          | inr none ↦ absurd (omega (arith, none.1))
        ],
      ),
    );
    ordered = are.ordered;
    below = are.below;
  }

  module _ (s i : ℕ) (x : Entry) (within : i < length own) (read : x ≡ get_or own i x) where
    -- What is asked up to the next place is asked up to this one, or is of the entry at this one.
    one_more : (e : entries.Entry) → Own e → IsAskedTo s (i + 1) e → IsAskedTo s i e ⊎ ((e.place ≡ i) × (rank x ≡ s))
    one_more e is (inl less) = inl (inl less)
    one_more e is (inr last) = up_to e.place i (IsAskedTo s i e ⊎ ((e.place ≡ i) × (rank x ≡ s))) last.1
        (λ less. inl (inr (last.0, less)))
        (λ at.
        let same = same_at own i is.entry x within (subst (λ k. is.entry ≡ get_or own k is.entry) at is.there) read in
        inr (at, ap rank (sym same) ∙ sym (own_rank abi container default own e is) ∙ last.0))

    longer : (e : entries.Entry) → IsAskedTo s i e → IsAskedTo s (i + 1) e
    longer e (inl less) = inl less
    longer e (inr same) = inr (same.0, omega (arith, same.1))

    one_passed : (all : List entries.Entry) → rank x ≢ s → Are s i all → Are s (i + 1) all
    one_passed all not are = record {
      exactly = λ e. (
        λ has. let is = (are.exactly e).0 has in (is.0, longer e is.1),
        λ is. elim (one_more e is.0 is.1) [ inl before ↦ (are.exactly e).1 (is.0, before) | inr here ↦ absurd (not here.1) ],
      );
      ordered = are.ordered;
      below = are.below;
    }

    one_added : (before : List entries.Entry) (c : Concern) → rank x ≡ s → IsConcernOf abi container default x c → Are s i before
        → Are s (i + 1) (before ++ entries_for i c)
    one_added before c ranked says are = record {
      exactly = λ e. (
        λ has. elim (Contains-append_cases before (entries_for i c) e has) [
          | inl earlier ↦ let is = (are.exactly e).0 earlier in (is.0, longer e is.1)
          | inr here ↦ let is = said_only abi container default own i x c within read says e here in
              (is.0, inr (here_ranked e is, omega (arith, is.1)))
        ],
        λ is. elim (one_more e is.0 is.1) [
          | inl earlier ↦ Contains-append_left before (entries_for i c) e ((are.exactly e).1 (is.0, earlier))
          | inr here ↦ Contains-append_right before (entries_for i c) e
              (said_has abi container default own i x c within read says e is.0 here.0)
        ],
      );
      ordered = pairs_append IsAskedBefore before (entries_for i c) are.ordered
          (said_ordered abi container default own i x c within read says)
          (λ e f has has_too.
          let is = said_only abi container default own i x c within read says f has_too in
          elim ((are.exactly e).0 has).1 [
            | inl less ↦ by_rank (subst (λ n. rank_of e < n) (sym (here_ranked f is)) less)
            | inr same ↦ by_place (same.0 ∙ sym (here_ranked f is)) (subst (λ n. e.place < n) (sym is.1) same.1)
          ]);
      below = All-append (λ e. e.number < end_for abi) before (entries_for i c) are.below
          (said_below abi container default own i x c within read says);
    }
      where
        here_ranked : (e : entries.Entry) → Own e × (e.place ≡ i) → rank_of e ≡ s
        here_ranked e is =
            let same = same_at own i is.0.entry x within (subst (λ k. is.0.entry ≡ get_or own k is.0.entry) is.1 is.0.there) read in
            own_rank abi container default own e is.0 ∙ ap rank same ∙ ranked

-- What is said at a place has given its entries.
pub next_said : (abi : Abi) (container : Container) (default : Action) (own : List Entry) (concerns : List Concern) (s i : ℕ)
    (c : Concern) (old new : List entries.Entry) → AllZip (IsConcernOf abi container default) own concerns → i < length concerns
    → c ≡ get_or concerns i c → IsPushed i s c old new → AreAskedTo abi container default own s i old
    → AreAskedTo abi container default own s (i + 1) new
next_said abi container default own concerns s i c old new zip within is push are =
    let R = IsConcernOf abi container default in
    let long = zip_length R own concerns zip in
    let at = zip_at R own concerns i (omega arith) zip in
    let same : at.other ≡ c = same_at concerns i at.other c within at.other_is is in
    go at.one (omega arith) at.one_is (subst (R at.one) same at.both) push
  where
    go : (x : Entry) → i < length own → x ≡ get_or own i x → IsConcernOf abi container default x c → IsPushed i s c old new
        → AreAskedTo abi container default own s (i + 1) new
    go x inside read says (passed_over not same) = subst (AreAskedTo abi container default own s (i + 1)) (sym same)
        (one_passed abi container default own s i x inside read old (λ ranked. not (says.rank ∙ ranked)) are)
    go x inside read says (pushed ranked longer) = subst (AreAskedTo abi container default own s (i + 1)) (sym longer)
        (one_added abi container default own s i x inside read old c (sym says.rank ∙ ranked) says are)
