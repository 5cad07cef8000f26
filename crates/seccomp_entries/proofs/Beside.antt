-- For `verdict`: entries beside one of them, and verdicts.
use Rattle.std.proofs.Common.{◌≡◌, ◌≢◌, ℕ, zero, suc, ◌+◌, ◌<◌, ◌≤◌, List, [], ◌∷◌, ◌++◌, length, get_or, Some, All}
use Rattle.std.proofs.Common.{refl, sym, ap, ◌∙◌, subst, arith, ⊎_elim}
use Rattle.std.specs.Prelude.{Contains, IsSomeAnd, slice_get}
use Rattle.std.proofs.lemmas.Bool.{cases_eq}
use Rattle.std.proofs.lemmas.List.Elements.{All-nil, All-push}
use Rattle.std.proofs.lemmas.List.Elements.{Contains-append_left, Contains-push}
use Rattle.std.proofs.lemmas.Option.{slice_get_read, slice_get_within}
use Rattle.seccompiler.specs.declared.backend.TargetArch.{TargetArch}
use Rattle.seccompiler.specs.Policy.{Rule, RuleHolds}
use Rattle.seccomp_compare.specs.Cover.{Covers, IsCallOf, SomeHolds}
use Rattle.seccomp_compare.specs.declared.covered.Cover.{Cover}
use Rattle.seccomp_compare.specs.declared.covered.Cover.TheVariants.{Covered, Escapes, Undecided}
use Rattle.seccomp_entries.specs.Entries.{Entry, Meets}
use Rattle.seccomp_entries.specs.Verdicts.{AreBeside, CoversBeside, IsBeside, IsCallAt, IsRuleBeside, IsVerdict, verdict_by}

-- what holds of the items so far, and of one more
pub each_push : {X : Type 0} (P : ℕ → X → Type 0) (vs : List X) (v : X) → P (length vs) v
    → ((k : ℕ) (w : X) → slice_get vs k ≡ Some w → P k w) → (k : ℕ) (w : X) → slice_get (vs ++ v ∷ []) k ≡ Some w → P k w
each_push P [] v here before zero w got = let same : v ≡ w = cc in subst (P 0) same here
each_push P [] v here before (suc k) w got = absurd (let never : ⊥ = cc in never)
each_push P (x ∷ vs) v here before zero w got = before 0 w got
each_push P (x ∷ vs) v here before (suc k) w got = each_push (λ m. P (suc m)) vs v here (λ m. before (suc m)) k w got

-- the entry at a place is so
pub at_place : (entries : List Entry) (place : ℕ) (own : Entry) (P : Entry → Type 0) → place < length entries
    → own ≡ get_or entries place own
    → P own → IsSomeAnd (slice_get entries place) P
at_place entries place own P within is so =
    subst (λ o. IsSomeAnd o P) (sym (slice_get_read entries (length entries) place own refl within is)) so

module _ (arch : TargetArch) (entries : List Entry) (place most : ℕ) (own : Entry) where
  -- a call of the entry is one of its rule
  pub of_entry : (r : List ℕ) → IsCallAt arch own r → IsCallOf arch own.number own.conditions r
  of_entry r call = record { record_is = call.0; arch_is = call.1; number_is = sym call.2.own; holds = call.2.holds }

  pub of_rule : (r : List ℕ) → IsCallOf arch own.number own.conditions r → IsCallAt arch own r
  of_rule r call = (call.record_is, call.arch_is, record { own = sym call.number_is; holds = call.holds })

  -- such a call meets another entry if a rule of others holds
  pub meets_other : (rules : List Rule) → All (IsRuleBeside entries place own.number) rules → (r : List ℕ) → IsCallAt arch own r
      → SomeHolds rules r → IsBeside entries place (Meets r)
  meets_other rules are r call any =
      let is = subst (λ q. IsBeside entries place (λ e. (e.number ≡ own.number) × (e.conditions ≡ q))) any.3 (are any.0 any.1 any.2) in
      record {
        at = is.at;
        other = is.other;
        entry = is.entry;
        there = is.there;
        is = record { own = is.is.0 ∙ call.2.own; holds = subst (λ q. RuleHolds q r) (sym is.is.1) any.4 };
      }

  -- so what is so beside all the others' rules is so beside the others
  pub by_rules : (rules : List Rule) → AreBeside entries place own.number (length entries) rules → (cover : Cover)
      → Covers arch own.number own.conditions rules most cover → CoversBeside arch entries place most own cover
  by_rules rules beside (Escapes s) says = (
    of_rule s says.0,
    λ is.
        let within = slice_get_within entries is.at is.entry is.there in
        let has = beside.each is.at is.entry within is.other is.there (is.is.own ∙ says.0.number_is) in
        says.1 (has.0, is.entry.conditions, has.1, has.2, is.is.holds),
  )
  by_rules rules beside Covered says = λ s call. meets_other rules beside.are s call (says s (of_entry s call))
  by_rules rules beside Undecided says = record { others = rules; are = beside.are; many = says }

  -- and the verdict is true
  pub is_verdict : (alone cover : Cover) → Covers arch own.number own.conditions [] most alone
      → CoversBeside arch entries place most own cover → IsVerdict arch entries place most own (verdict_by alone cover)
  is_verdict Covered cover none says = λ s call. let any = none s (of_entry s call) in omega (arith, any.2)
  is_verdict (Escapes r) (Escapes s) none says = (s, says.0, says.1)
  is_verdict Undecided (Escapes s) none says = (s, says.0, says.1)
  is_verdict (Escapes r) Covered none says = ((r, of_rule r none.0), says)
  is_verdict (Escapes r) Undecided none says = says
  is_verdict Undecided Covered none says = record { others = []; are = All-nil (IsRuleBeside entries place own.number); many = none }
  is_verdict Undecided Undecided none says = says

-- ---- one entry more

-- it is one of them
pub one_more : (entries : List Entry) (place number k : ℕ) (rules : List Rule) (e : Entry) (q : Rule)
    → AreBeside entries place number k rules → slice_get entries k ≡ Some e → k ≢ place → e.number ≡ number → q ≡ e.conditions
    → AreBeside entries place number (k + 1) (rules ++ q ∷ [])
one_more entries place number k rules e q old there other own is = record {
  are = All-push (λ (p : Rule). IsRuleBeside entries place number p) rules q old.are
      record { at = k; other = other; entry = e; there = there; is = (own, sym is) };
  each = λ j d below apart at same.
      ⊎_elim
      (λ here.
      let found : Some d ≡ Some e = sym at ∙ ap (slice_get entries) here ∙ there in
      let conditions : q ≡ d.conditions = is ∙ ap (λ (x : Entry). x.conditions) (let one : e ≡ d = cc in one) in
      subst (Contains (rules ++ q ∷ [])) conditions (Contains-push rules q))
      (λ earlier. Contains-append_left rules (q ∷ []) d.conditions (old.each j d (omega (arith, below, earlier)) apart at same))
      (cases_eq j k);
}

-- or it isn't
pub none_more : (entries : List Entry) (place number k : ℕ) (rules : List Rule) (e : Entry)
    → AreBeside entries place number k rules → slice_get entries k ≡ Some e → (k ≢ place → e.number ≡ number → ⊥)
    → AreBeside entries place number (k + 1) rules
none_more entries place number k rules e old there none = record {
  are = old.are;
  each = λ j d below apart at same.
      ⊎_elim
      (λ here.
      let found : Some d ≡ Some e = sym at ∙ ap (slice_get entries) here ∙ there in
      let one : d ≡ e = cc in
      absurd (none (λ at_place. apart (here ∙ at_place)) (sym (ap (λ (x : Entry). x.number) one) ∙ same)))
      (λ earlier. old.each j d (omega (arith, below, earlier)) apart at same)
      (cases_eq j k);
}

-- ---- lists

-- what is so by many sets is so by fewer
pub covers_less : (arch : TargetArch) (number : ℕ) (own : Rule) (rules : List Rule) (most more : ℕ) (cover : Cover) → most ≤ more
    → Covers arch number own rules more cover → Covers arch number own rules most cover
covers_less arch number own rules most more (Escapes r) le says = says
covers_less arch number own rules most more Covered le says = says
covers_less arch number own rules most more Undecided le says = omega (arith, le, says)
