-- For `numbers_in`: the numbers of names, and of an entry.
use Rattle.std.proofs.Common.{◌≡◌, ◌≢◌, ◌<◌, ℕ, pos, ◌+◌, List, [], ◌∷◌, ◌++◌, map, take, length, get_or, subst, sym, ap, ◌∙◌, inl, inr}
use Rattle.std.proofs.Common.{◌⊎◌, String, Global, string_bytes, Option, Some, None}
use Rattle.std.specs.Prelude.{Any, Contains, IfNone, IfSome, MatchOption}
use Rattle.std.proofs.lemmas.List.{get_or_default}
use Rattle.std.proofs.lemmas.List.Elements.{All-push, Contains-append_left, Contains-push, Contains-push_cases}
use Rattle.std.proofs.lemmas.List.Quantifiers.{all_pairs_push}
use Rattle.seccomp_entries.specs.declared.entry.Action.{Action}
use Rattle.seccomp_profiles.specs.declared.types.Abi.{Abi}
use Rattle.seccomp_profiles.specs.Abis.{end_for, machine_of, number_for}
use Rattle.seccomp_profiles.specs.Concerns.{AreCallsOf}
use Rattle.seccomp_profiles.specs.Decision.{Applies, ConcernsOn, IsNameOf}
use Rattle.seccomp_profiles.specs.Types.{Container, Entry}
use Rattle.seccomp_profiles.proofs.Quantified.{any_push, more_texts}

-- The number is added at the end, or was there.
abbrev IsAddedTo : (old new : List ℕ) → ℕ → Type 0
IsAddedTo old new n = ((new ≡ old ++ n ∷ []) × (Contains old n → ⊥)) ⊎ (Contains old n × (new ≡ old))

module _ (abi : Abi) where
  -- The numbers of these names.
  abbrev pub AreNumbersOf : List (List ℕ) → List ℕ → Type 0
  AreNumbersOf texts numbers = AreCallsOf (end_for abi) (λ n. Any (IsNameOf abi n) texts) numbers

  -- What is at a place of a list isn't what the list hasn't.
  apart_from : (old : List ℕ) (k : ℕ) → (Contains old k → ⊥) → (i d : ℕ) → i < length old → get_or old i d ≢ k
  apart_from old k new i d within same = new (i, within, get_or_default old i k d within ∙ same)

  one_more : (old : List ℕ) (before : List (List ℕ)) (text : List ℕ) (k : ℕ) → IsNameOf abi k text → k < end_for abi
      → (Contains old k → ⊥) → AreNumbersOf before old → AreNumbersOf (before ++ text ∷ []) (old ++ k ∷ [])
  one_more old before text k is small new so_far = record {
    exactly = λ n. (
      λ has. (any_push (IsNameOf abi n) before text).1 (elim (Contains-push_cases old k n has) [
        | inl earlier ↦ inl ((so_far.exactly n).0 earlier)
        | inr same ↦ inr (subst (λ n. IsNameOf abi n text) same is)
      ]),
      λ any. elim ((any_push (IsNameOf abi n) before text).0 any) [
        | inl earlier ↦ Contains-append_left old (k ∷ []) n ((so_far.exactly n).1 earlier)
        | inr named ↦ let same : k ≡ n = cc in subst (λ n. Contains (old ++ k ∷ []) n) same (Contains-push old k)
      ],
    );
    once = all_pairs_push (λ m n. m ≢ n) old k so_far.once (apart_from old k new);
    below = All-push (λ n. n < end_for abi) old k so_far.below small;
  }

  one_again : (old : List ℕ) (before : List (List ℕ)) (text : List ℕ) (k : ℕ) → IsNameOf abi k text → Contains old k
      → AreNumbersOf before old → AreNumbersOf (before ++ text ∷ []) old
  one_again old before text k is there so_far = record {
    exactly = λ n. (
      λ has. (any_push (IsNameOf abi n) before text).1 (inl ((so_far.exactly n).0 has)),
      λ any. elim ((any_push (IsNameOf abi n) before text).0 any) [
        | inl earlier ↦ (so_far.exactly n).1 earlier
        | inr named ↦ let same : k ≡ n = cc in subst (λ n. Contains old n) same there
      ],
    );
    once = so_far.once;
    below = so_far.below;
  }

  one_unknown : (old : List ℕ) (before : List (List ℕ)) (text : List ℕ) → ((n : ℕ) → IsNameOf abi n text → ⊥)
      → AreNumbersOf before old → AreNumbersOf (before ++ text ∷ []) old
  one_unknown old before text unknown so_far = record {
    exactly = λ n. (
      λ has. (any_push (IsNameOf abi n) before text).1 (inl ((so_far.exactly n).0 has)),
      λ any. elim ((any_push (IsNameOf abi n) before text).0 any) [
        | inl earlier ↦ (so_far.exactly n).1 earlier
        | inr named ↦ absurd (unknown n named)
      ],
    );
    once = so_far.once;
    below = so_far.below;
  }

  -- The numbers so far and that of one name more, if it has one.
  pub next : (old new : List ℕ) (names : List (String Global)) (i : ℕ) (name : String Global) (text : List ℕ) (o : Option ℕ)
      → i < length names → name ≡ get_or names i name → text ≡ string_bytes name
      → IfSome o (λ n. (number_for abi text ≡ Some (pos n)) × (n < end_for abi))
      → IfNone o ((n : ℕ) → number_for abi text ≡ Some (pos n) → ⊥)
      → MatchOption o (new ≡ old) (IsAddedTo old new) → AreNumbersOf (map string_bytes (take i names)) old
      → AreNumbersOf (map string_bytes (take (i + 1) names)) new
  next old new names i name text None within read same some none longer so_far =
      subst (λ texts. AreNumbersOf texts new) (sym (more_texts names i name within read))
      (subst (AreNumbersOf (map string_bytes (take i names) ++ string_bytes name ∷ [])) (sym longer)
      (one_unknown old (map string_bytes (take i names)) (string_bytes name)
      (λ n is. none n (ap (number_for abi) same ∙ is)) so_far))
  next old new names i name text (Some k) within read same some none longer so_far =
      let named : IsNameOf abi k (string_bytes name) = ap (number_for abi) (sym same) ∙ some.0 in
      subst (λ texts. AreNumbersOf texts new) (sym (more_texts names i name within read)) (elim longer [
        | inl added ↦ subst (AreNumbersOf (map string_bytes (take i names) ++ string_bytes name ∷ [])) (sym added.0)
            (one_more old (map string_bytes (take i names)) (string_bytes name) k named some.1 added.1 so_far)
        | inr there ↦ subst (AreNumbersOf (map string_bytes (take i names) ++ string_bytes name ∷ [])) (sym there.1)
            (one_again old (map string_bytes (take i names)) (string_bytes name) k named there.0 so_far)
      ])

  -- The calls that an entry concerns.
  pub concerned : (container : Container) (default : Action) (e : Entry) (numbers : List ℕ) → Applies (machine_of abi) container e
      → e.action ≢ default → AreNumbersOf e.names numbers → AreCallsOf (end_for abi) (λ n. ConcernsOn abi container default n e) numbers
  concerned container default e numbers applies other are = record {
    exactly = λ n. (
      λ has. record { applies = applies; named = (are.exactly n).0 has; other = other },
      λ concerns. (are.exactly n).1 concerns.named,
    );
    once = are.once;
    below = are.below;
  }
