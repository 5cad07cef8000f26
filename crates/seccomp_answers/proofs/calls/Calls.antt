-- For `call_number`, `known_calls` and `call_made`: texts that are calls, and the calls of a text.
use Rattle.std.proofs.Common.{◌≡◌, ◌≢◌, ℕ, ◌<◌, ◌^◌, List, [], ◌∷◌, ◌++◌, All, Contains, None, Option, Result, Ok, Err, IfSome}
use Rattle.std.proofs.Common.{IfNone, Some, pos}
use Rattle.std.proofs.Common.{codes, sym, subst, ◌∙◌, ◌+◌, ap, arith, get_or, inl, inr, length, take}
use Rattle.std.proofs.lemmas.List.{take_more}
use Rattle.std.proofs.lemmas.List.Elements.{All-push, All-weaker, Contains-append_left, Contains-push, Contains-push_cases}
use Rattle.std.specs.Result.{OkIff, result_ok}
use Rattle.std.specs.Str.Parse.{IsNumeral, digits_value}
use Rattle.seccompiler.specs.declared.backend.TargetArch.{TargetArch}
use Rattle.seccompiler.specs.Architecture.{table_of}
use Rattle.seccomp_profiles.specs.Abis.{number_for}
use Rattle.seccomp_profiles.specs.declared.types.Abi.{Abi}
use Rattle.seccomp_answers.specs.Findings.{LacksName, name_of}
use Rattle.seccomp_answers.specs.Numbers.{IsNumber, decimal, hexadecimal}
use Rattle.seccomp_answers.specs.Calls.{AreKnownCalls, IsCall, IsCallOn, IsKnownCall, numbered, named}
use Rattle.seccomp_answers.specs.declared.calls.KnownCall.{KnownCall}

-- ---- numbers

-- Decimal digits have no `x` among them.
no_prefix : (text digits : List ℕ) → text ≡ codes "0x" ++ digits → IsNumeral 10 text → ⊥
no_prefix text digits same numeral = let all = subst (IsNumeral 10) same numeral in omega (arith, all.1.1.0)

-- A text is one number.
one_number : (text : List ℕ) (n m : ℕ) → IsNumber text n → IsNumber text m → n ≡ m
one_number text n m (decimal _ a) (decimal _ b) = a.value ∙ sym b.value
one_number text n m (decimal _ a) (hexadecimal digits same b) = absurd (no_prefix text digits same a.digits)
one_number text n m (hexadecimal digits same a) (decimal _ b) = absurd (no_prefix text digits same b.digits)
one_number text n m (hexadecimal digits same a) (hexadecimal others too b) = let e : digits ≡ others = cc in
    a.value ∙ ap (digits_value 16) e ∙ sym b.value

-- ---- calls

module _ {E : Type 0} (abi : Abi) (call : List ℕ) (number : ℕ) (is : IsNumber call number) where
  -- A number that 32 bits hold is a call's.
  pub numbered_call : (r : Result ℕ E) → OkIff r (number < 2 ^ 32) number → IfSome (result_ok r) (IsCallOn abi call)
  numbered_call (Ok n) h = numbered (subst (IsNumber call) (sym h.1) is) (omega (arith, h))
  numbered_call (Err e) h = tt

  -- Another one is none.
  pub numbered_none : (r : Result ℕ E) → OkIff r (number < 2 ^ 32) number → IfNone (result_ok r) ((n : ℕ) → IsCallOn abi call n → ⊥)
  numbered_none (Ok n) h = tt
  numbered_none (Err e) h = λ n asked. elim asked [
    | numbered other fits ↦ h (omega (arith, one_number call n number other is))
    | named none found ↦ none number is
  ]

-- A text that is neither a number nor a name is no call.
pub no_call : (abi : Abi) (call : List ℕ) → ((n : ℕ) → IsNumber call n → ⊥) → (o : Option ℕ)
    → IfNone o ((n : ℕ) → number_for abi call ≡ Some (pos n) → ⊥) → IfNone o ((n : ℕ) → IsCallOn abi call n → ⊥)
no_call abi call none (Some n) lacks = tt
no_call abi call none None lacks = λ n asked. elim asked [ numbered is fits ↦ none n is | named unwritten found ↦ lacks n found ]

-- A text is one call of an architecture.
one_call : (target : TargetArch) (text : List ℕ) (n m : ℕ) → IsCall target text n → IsCall target text m → n ≡ m
one_call target text n m (numbered a _) (numbered b _) = one_number text n m a b
one_call target text n m (numbered a _) (named none _) = absurd (none n a)
one_call target text n m (named none _) (numbered b _) = absurd (none m b)
one_call target text n m (named _ a) (named _ b) = cc

-- ---- the calls of a text

module _ (call : List ℕ) where
  -- Its known call of an architecture is one.
  one_known : (a b : KnownCall) → a.target ≡ b.target → IsKnownCall call a → IsKnownCall call b → a ≡ b
  one_known a b same known other =
      let numbers = one_call b.target call a.number b.number (subst (λ t. IsCall t call a.number) same known.is) other.is in
      λ i. record { target = same i; number = numbers i }

  -- Its calls on these architectures.
  pub record AreCallsOn (targets : List TargetArch) (calls : List KnownCall) : Type 0 where
    pub each : All (λ (known : KnownCall). Contains targets known.target × IsKnownCall call known) calls
    pub complete : (known : KnownCall) → Contains targets known.target → IsKnownCall call known → Contains calls known

  module _ (targets : List TargetArch) (calls : List KnownCall) (are : AreCallsOn targets calls) (target : TargetArch) where
    -- One architecture more, of which it is no call that has a name.
    pub none_more : ((known : KnownCall) → known.target ≡ target → IsKnownCall call known → ⊥) → AreCallsOn (targets ++ target ∷ []) calls
    none_more none = record {
      each = All-weaker (λ (known : KnownCall). Contains targets known.target × IsKnownCall call known)
          (λ (known : KnownCall). Contains (targets ++ target ∷ []) known.target × IsKnownCall call known)
          (λ known is. (Contains-append_left targets (target ∷ []) known.target is.0, is.1)) calls are.each;
      complete = λ known on is. elim (Contains-push_cases targets target known.target on) [
        | inl there ↦ are.complete known there is
        | inr own ↦ absurd (none known (sym own) is)
      ];
    }

    -- One architecture more, of which it is this call.
    pub one_more : (own : KnownCall) → own.target ≡ target → IsKnownCall call own
        → AreCallsOn (targets ++ target ∷ []) (calls ++ own ∷ [])
    one_more own of is_own = record {
      each = All-push (λ (known : KnownCall). Contains (targets ++ target ∷ []) known.target × IsKnownCall call known) calls own
          (All-weaker (λ (known : KnownCall). Contains targets known.target × IsKnownCall call known)
          (λ (known : KnownCall). Contains (targets ++ target ∷ []) known.target × IsKnownCall call known)
          (λ known is. (Contains-append_left targets (target ∷ []) known.target is.0, is.1)) calls are.each)
          (subst (Contains (targets ++ target ∷ [])) (sym of) (Contains-push targets target), is_own);
      complete = λ known on is. elim (Contains-push_cases targets target known.target on) [
        | inl there ↦ Contains-append_left calls (own ∷ []) known (are.complete known there is)
        | inr same ↦ subst (Contains (calls ++ own ∷ [])) (one_known own known (of ∙ same) is_own is) (Contains-push calls own)
      ];
    }

  -- What is no call has none that has a name; nor has one whose number has none.
  pub lacks_call : (target : TargetArch) → ((n : ℕ) → IsCall target call n → ⊥) → (known : KnownCall) → known.target ≡ target
      → IsKnownCall call known → ⊥
  lacks_call target none known of is = none known.number (subst (λ t. IsCall t call known.number) of is.is)

  pub lacks_name : (target : TargetArch) (n : ℕ) → IsCall target call n → LacksName (table_of target) n → (known : KnownCall)
      → known.target ≡ target → IsKnownCall call known → ⊥
  lacks_name target n is_call lacks known of is =
      let number = one_call target call known.number n (subst (λ t. IsCall t call known.number) of is.is) is_call in
      is.named (ap (λ t. name_of (table_of t) known.number) of ∙ ap (name_of (table_of target)) number ∙ lacks)

  -- The next architecture of these.
  module _ (targets : List TargetArch) (calls : List KnownCall) (at : ℕ) (d : TargetArch) (room : at < length targets)
      (are : AreCallsOn (take at targets) calls) where
    abbrev target : TargetArch
    target = get_or targets at d

    one_further : take (at + 1) targets ≡ take at targets ++ target ∷ []
    one_further = take_more targets at d room

    pub next_none : ((known : KnownCall) → known.target ≡ get_or targets at d → IsKnownCall call known → ⊥)
        → AreCallsOn (take (at + 1) targets) calls
    next_none none = subst (λ ts. AreCallsOn ts calls) (sym one_further) (none_more (take at targets) calls are target none)

    pub next_one : (own : KnownCall) → own.target ≡ get_or targets at d → IsKnownCall call own
        → AreCallsOn (take (at + 1) targets) (calls ++ own ∷ [])
    next_one own of is_own =
        subst (λ ts. AreCallsOn ts (calls ++ own ∷ [])) (sym one_further) (one_more (take at targets) calls are target own of is_own)

  -- There is one.
  pub are_known : (targets : List TargetArch) (calls : List KnownCall) → AreCallsOn targets calls → calls ≢ []
      → AreKnownCalls (Contains targets) call calls
  are_known targets calls are some = record { each = are.each; complete = are.complete; some = some }
