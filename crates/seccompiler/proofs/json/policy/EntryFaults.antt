-- For `JsonCompiler::make_seccomp_filter`, `JsonCompiler::widened` and
-- `widened_numbers`: the entries of a JSON filter: nothing is wrong with any, or one fault is the first.
use Rattle.std.proofs.Common.{◌≡◌, ◌≢◌, Bool, true, false, ℕ, ℤ, List, [], ◌∷◌, ◌++◌, Option, Some, None, All, refl, sym, ap}
use Rattle.std.proofs.Common.{◌∙◌, subst, ◌⊎◌, inl, inr, arith}
use Rattle.std.proofs.lemmas.Bool.{true≢false}
use Rattle.std.proofs.lemmas.List.Elements.{All-nil, All-cons, All-head, All-tail, All-contains, Contains-append_right}
use Rattle.seccompiler.specs.contracts.backend.SeccompActionEqualByParts.TheImpl.Laws as laws
use Rattle.seccompiler.specs.declared.backend.SeccompAction.{SeccompAction}
use Rattle.seccompiler.specs.declared.backend.TargetArch.{TargetArch}
use Rattle.seccompiler.specs.declared.json.error.JsonFrontendError.{JsonFrontendError}
use Rattle.seccompiler.specs.declared.json.types.JsonCondition.{JsonCondition}
use Rattle.seccompiler.specs.JsonTypes.{JsonRule}
use Rattle.seccompiler.specs.Architecture.{table_of}
use Rattle.seccompiler.specs.SyscallTable.{number_of}
use Rattle.seccompiler.specs.JsonPolicyOf.{Fault, unknown_call, IsFaultIn, IsFor, IsFineEntry, IsFaultOf, unknown_name, wrong_args}
use Rattle.seccompiler.specs.JsonPolicyOf.{IsFirstOf}
use Rattle.seccompiler.specs.JsonSteps.{Tells}
use Rattle.seccompiler.proofs.json.policy.EntryRules.{fine_or_fault_in, not_both_in, one_fault_in}

-- An error that tells a fault tells one of which more is known.
pub tells_more : (P Q : Fault → Type 0) → ((fault : Fault) → P fault → Q fault) → (error : JsonFrontendError)
    → Tells P error → Tells Q error
tells_more P Q more error told = grind arith

module _ (arch : TargetArch) where
  -- What is wrong with the conditions of a known call is wrong with the entry.
  pub wrong_entry : (entry : JsonRule) (number : ℤ) (conditions : List JsonCondition) (error : JsonFrontendError)
      → IsFor arch number entry → entry.conditions ≡ Some conditions
      → Tells (IsFaultIn conditions) error → Tells (IsFaultOf arch entry) error
  wrong_entry entry number conditions error known are told =
      tells_more (IsFaultIn conditions) (IsFaultOf arch entry) (λ fault wrong. wrong_args number conditions known are wrong) error told

  -- An entry whose call has no number is told by its call's name.
  pub unknown_entry : (entry : JsonRule) (name : List ℕ) → number_of (table_of arch) entry.syscall ≡ None
      → name ≡ entry.syscall → IsFaultOf arch entry (unknown_call name arch)
  unknown_entry entry name unknown is = unknown_name unknown (ap (λ n. unknown_call n arch) is)

  -- Nothing is wrong with an entry, or some fault is its first.
  fine_or_fault : (entry : JsonRule) → IsFineEntry arch entry ⊎ ((fault : Fault) × IsFaultOf arch entry fault)
  fine_or_fault entry = by (number_of (table_of arch) entry.syscall) entry.conditions refl refl
    where
      by : (o : Option ℤ) (cs : Option (List JsonCondition)) → number_of (table_of arch) entry.syscall ≡ o
          → entry.conditions ≡ cs → IsFineEntry arch entry ⊎ ((fault : Fault) × IsFaultOf arch entry fault)
      by None cs unknown are = inr (unknown_call entry.syscall arch, unknown_name unknown refl)
      by (Some number) None known are = inl (record { number = number; is_for = known; conditions = rw are tt })
      by (Some number) (Some conditions) known are = elim (fine_or_fault_in conditions) [
        | inl fine ↦ inl (record { number = number; is_for = known; conditions = rw are fine })
        | inr wrong ↦ inr (wrong.0, wrong_args number conditions known are wrong.1)
      ]

  -- An entry with which nothing is wrong has no fault.
  not_both : (entry : JsonRule) (fault : Fault) → IsFineEntry arch entry → IsFaultOf arch entry fault → ⊥
  not_both entry fault fine wrong = grind (arith, not_both_in)

  -- An entry has one first fault.
  one_fault : (entry : JsonRule) (a b : Fault) → IsFaultOf arch entry a → IsFaultOf arch entry b → a ≡ b
  one_fault entry a b first second = grind (arith, one_fault_in)

  -- Nothing is wrong with any of the entries, or some fault is the first.
  pub all_fine_or_fault : (entries : List JsonRule) → All (IsFineEntry arch) entries ⊎ ((fault : Fault) × IsFirstOf arch entries fault)
  all_fine_or_fault [] = inl (All-nil (IsFineEntry arch))
  all_fine_or_fault (entry ∷ entries) = elim (fine_or_fault entry) [
    | inr (fault, wrong) ↦
        inr (fault, record { front = []; entry = entry; back = entries; whole = refl; fine = All-nil (IsFineEntry arch); wrong = wrong })
    | inl fine ↦ elim (all_fine_or_fault entries) [
      | inl all ↦ inl (All-cons (IsFineEntry arch) entry entries fine all)
      | inr (fault, later) ↦ inr (
        fault,
        record {
          front = entry ∷ later.front;
          entry = later.entry;
          back = later.back;
          whole = ap (λ es. entry ∷ es) later.whole;
          fine = All-cons (IsFineEntry arch) entry later.front fine later.fine;
          wrong = later.wrong;
        },
      )
    ]
  ]

  -- What is wrong with an entry behind others with which nothing is wrong is the first fault of them all.
  pub first_wrong : (entries front : List JsonRule) (entry : JsonRule) (back : List JsonRule) → entries ≡ front ++ entry ∷ back
      → (error : JsonFrontendError) → All (IsFineEntry arch) front
      → Tells (IsFaultOf arch entry) error → Tells (IsFirstOf arch entries) error
  first_wrong entries front entry back whole error fine told = tells_more (IsFaultOf arch entry) (IsFirstOf arch entries)
      (λ fault wrong. record { front = front; entry = entry; back = back; whole = whole; fine = fine; wrong = wrong }) error told

  -- Entries with which nothing is wrong have no fault.
  pub none_wrong : (entries : List JsonRule) (fault : Fault) → All (IsFineEntry arch) entries → IsFirstOf arch entries fault → ⊥
  none_wrong entries fault fine first =
      let all = subst (All (IsFineEntry arch)) first.whole fine in
      not_both first.entry fault (All-contains (IsFineEntry arch) _ first.entry all
      (Contains-append_right first.front (first.entry ∷ first.back) first.entry (0, omega arith, refl))) first.wrong

  -- Where entries are cut in two ways at a first fault, it is the same fault.
  same_first : (front other_front : List JsonRule) (entry other : JsonRule) (back other_back : List JsonRule) (a b : Fault)
      → front ++ entry ∷ back ≡ other_front ++ other ∷ other_back
      → All (IsFineEntry arch) front → All (IsFineEntry arch) other_front → IsFaultOf arch entry a → IsFaultOf arch other b → a ≡ b
  same_first [] [] entry other back other_back a b same fine others wrong wrong_too =
      let here : entry ≡ other = cc in
      one_fault other a b (subst (λ (x : JsonRule). IsFaultOf arch x a) here wrong) wrong_too
  same_first [] (y ∷ ys) entry other back other_back a b same fine others wrong wrong_too =
      let here : entry ≡ y = cc in
      absurd (not_both y a (All-head (IsFineEntry arch) y ys others) (subst (λ (x : JsonRule). IsFaultOf arch x a) here wrong))
  same_first (x ∷ xs) [] entry other back other_back a b same fine others wrong wrong_too =
      absurd (not_both other b (grind (arith, All-head (IsFineEntry arch) x xs fine)) wrong_too)
  same_first (x ∷ xs) (y ∷ ys) entry other back other_back a b same fine others wrong wrong_too =
      same_first xs ys entry other back other_back a b (cc) (All-tail (IsFineEntry arch) x xs fine)
      (All-tail (IsFineEntry arch) y ys others) wrong wrong_too

  -- Entries have one first fault.
  pub one_first : (entries : List JsonRule) (a b : Fault) → IsFirstOf arch entries a → IsFirstOf arch entries b → a ≡ b
  one_first entries a b first second = same_first first.front second.front first.entry second.entry first.back second.back a b
      (sym first.whole ∙ second.whole) first.fine second.fine first.wrong second.wrong

-- Actions are equal if it can't be that they differ.
decided : {P : Type 0} (b : Bool) → (b ≡ true → P) → (P → b ≡ true) → ((P → ⊥) → false ≡ true) → P
decided true is told apart = is refl
decided false is told apart = absurd (true≢false (sym (apart (λ same. true≢false (sym (told same))))))

pub same_actions : (x y : SeccompAction) → (x ≢ y → false ≡ true) → x ≡ y
same_actions x y apart = let test = laws.decides-law x y in decided _ test.0 test.1 apart
