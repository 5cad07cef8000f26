-- What the kernel makes of the first so many programs, as it asks one more.
use Rattle.std.proofs.Common.{◌≡◌, ℕ, ◌+◌, ◌<◌, ◌≤◌, List, [], ◌∷◌, ◌++◌, length, take, get_or, Vec, Global, Option, Some, None}
use Rattle.std.proofs.Common.{sym, ap, ◌∙◌, subst, arith, length-take, ⊎_elim, ◌⊎◌, true, false}
use Rattle.std.specs.Prelude.{MatchOption}
use Rattle.std.specs.Option.{is_some}
use Rattle.std.proofs.lemmas.Bool.{true≢false, false≢true}
use Rattle.std.proofs.lemmas.List.{take_all}
use Rattle.std.proofs.lemmas.List.Sums.{sum_by_push}
use Rattle.std.proofs.lemmas.Slice.Zip.{all_zipped_more}
use Rattle.seccompiler.specs.declared.bpf.sock_filter.{sock_filter}
use Rattle.seccomp_compare.specs.Machine.{Ends}
use Rattle.seccomp_stack.specs.Stack.{strictness, Returns, IsDecidedAt, IsStackDecision, of_none, of_one, HaveSteps}
use Rattle.seccomp_stack.proofs.Decisions.{decided_first, decided_still, decided_anew}
use Rattle.seccomp_stack.proofs.Stacked.{taken}

-- what is known when the first so many programs were asked
abbrev pub IsSoFar : List ℕ → List (Vec sock_filter Global) → ℕ → Option ℕ → ℕ → Type 0
IsSoFar r programs count decided word =
    MatchOption decided ((count ≡ 0) × (word ≡ 0x7fff0000)) (λ place. IsDecidedAt r (take count programs) place word)

module _ (r : List ℕ) (programs : List (Vec sock_filter Global)) (count : ℕ) (p : Vec sock_filter Global) (within : count < length programs)
    (is : p ≡ get_or programs count p) (word w : ℕ) (ends : Returns p.items r w) where
  -- the next program decides, if it is the first or none is stricter
  pub next_decides : (decided : Option ℕ) → IsSoFar r programs count decided word
      → (is_some decided ≡ false) ⊎ (strictness w ≤ strictness word) → IsDecidedAt r (take (count + 1) programs) count w
  next_decides None so_far either =
      let none = so_far.0 in
      let front : take count programs ≡ [] = ap (λ n. take n programs) none in
      let all : take (count + 1) programs ≡ p ∷ [] =
      taken programs count p within is ∙ ap (λ (xs : List (Vec sock_filter Global)). xs ++ p ∷ []) front in
      rw (all, none) (decided_first r p w ends)
  next_decides (Some place) so_far either =
      let long : length (take count programs) ≡ count = omega (arith, length-take count programs) in
      ⊎_elim
      (λ none. absurd (true≢false none))
      (λ most. rw (taken programs count p within is)
      (subst (λ at. IsDecidedAt r (take count programs ++ p ∷ []) at w) long
      (decided_anew r (take count programs) p place word w so_far ends most)))
      either

  -- else the one before still does
  pub next_still : (decided : Option ℕ) → IsSoFar r programs count decided word → is_some decided ≡ true → strictness word < strictness w
      → IsSoFar r programs (count + 1) decided word
  next_still None so_far some less = absurd (false≢true some)
  next_still (Some place) so_far some less =
      rw (taken programs count p within is) (decided_still r (take count programs) p place word w so_far ends less)

-- the steps of one program more
pub next_steps : (r : List ℕ) (programs : List (Vec sock_filter Global)) (count : ℕ) (p : Vec sock_filter Global) (w m n : ℕ)
    → count < length programs → p ≡ get_or programs count p → Ends p.items r m w → HaveSteps r (take count programs) n
    → HaveSteps r (take (count + 1) programs) (n + m)
next_steps r programs count p w m n within is ends steps = rw (taken programs count p within is) (record {
  each = steps.each ++ m ∷ [];
  takes = all_zipped_more (λ (q : Vec sock_filter Global) k. (u : ℕ) × Ends q.items r k u) (take count programs) steps.each p m steps.takes
      (w, ends);
  total = let before = steps.total in let both = sum_by_push (λ (x : ℕ). x) steps.each m in omega arith;
})

-- when all were asked
pub all_asked : (r : List ℕ) (programs : List (Vec sock_filter Global)) (count : ℕ) (decided : Option ℕ) (word : ℕ)
    → length programs ≤ count → IsSoFar r programs count decided word
    → IsStackDecision r programs word × MatchOption decided (programs ≡ []) (λ place. IsDecidedAt r programs place word)
all_asked r programs count None word end so_far =
    let none : programs ≡ [] = sym (take_all count programs end) ∙ ap (λ n. take n programs) so_far.0 in
    (of_none none so_far.1, none)
all_asked r programs count (Some place) word end so_far =
    let decided : IsDecidedAt r programs place word =
    subst (λ (xs : List (Vec sock_filter Global)). IsDecidedAt r xs place word) (take_all count programs end) so_far in
    (of_one place decided, decided)
