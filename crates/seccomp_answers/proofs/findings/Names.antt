-- For `parts`: which numbers have names, and the parts that this makes.
use Rattle.std.proofs.Common.{◌≡◌, ℕ, pos, ◌+◌, ◌-◌, ◌<◌, ◌≤◌, ◌⊎◌, List, [], ◌∷◌, ◌++◌, All, refl, sym, subst, inl, inr, arith, ◌∙◌}
use Rattle.std.proofs.Common.{drop, if◌then◌else◌, suc}
use Rattle.std.proofs.Common.{Bool, Bor, Option, None, Some, ap, false, get_or, length, map, negsuc, of_z, take, to_z, true, w64, ℤ}
use Rattle.std.specs.Int.{FitsUnsignedBits}
use Rattle.std.specs.Prelude.{option_map, slice_index_or, unsigned_abs, ◌^◌, ◌||◌}
use Rattle.std.specs.Option.{is_some}
use Rattle.std.specs.Ordering.{int_eq}
use Rattle.std.proofs.Math.ListN.{set}
use Rattle.std.proofs.Math.Seq.{drop-cons}
use Rattle.std.proofs.lemmas.Bool.{cases_Bool, cases_eq, true≢false}
use Rattle.std.proofs.lemmas.Bool.Decides.{Decides-int_eq}
use Rattle.std.proofs.lemmas.Int.{ints, to_z_pos}
use Rattle.std.proofs.lemmas.List.{get_or-map, get_or-set_other, get_or-set_same, length-map, take_more}
use Rattle.std.proofs.lemmas.List.Elements.{All-get_or, All-head, All-tail}
use Rattle.seccompiler.specs.SyscallTable.{IsCallTable, IsTableNumber, Pair}
use Rattle.seccomp_answers.specs.Findings.{HasName, LacksName, ArePartsBelow, name_of, then_gap}
use Rattle.seccomp_answers.specs.declared.findings.Part.{Part}
use Rattle.seccomp_answers.specs.declared.findings.Part.TheVariants.{Unnamed}

-- Numbers above those of tables have no name.
above : (n : ℕ) → 463 ≤ n → IsTableNumber (pos n) → ⊥
above n high h = grind (arith, ints, h.1)

pub none_above : (pairs : List Pair) → All (λ (pair : Pair). IsTableNumber pair.1) pairs → (n : ℕ) → 463 ≤ n → LacksName pairs n
none_above [] all n high = refl
none_above (pair ∷ pairs) all n high = elim (cases_Bool (int_eq pair.1 (pos n))) [
  | inl t ↦ absurd (above n high (subst IsTableNumber ((Decides-int_eq pair.1 (pos n)).0 t) (All-head (λ (pair : Pair). IsTableNumber
      pair.1) pair pairs all)))
  | inr f ↦ rw f (none_above pairs (All-tail (λ (pair : Pair). IsTableNumber pair.1) pair pairs all) n high)
]

-- Whether a number has a name is what is found for it.
pub has_name : (table : List Pair) (n : ℕ) (found : Option (Bor (List ℕ))) → option_map (λ name. name.now) found ≡ name_of table n
    → (is_some found ≡ true → HasName table n) × (is_some found ≡ false → LacksName table n)
has_name table n None is = (λ yes. absurd (true≢false (sym yes)), λ no. sym is)
has_name table n (Some name) is = (λ yes none. (let both : Some name.now ≡ None = is ∙ none in cc), λ no. absurd (true≢false no))

-- The same of a name that is known to be there or not.
pub is_known : (known : Bool) (found : Option (List ℕ)) → known ≡ is_some found
    → (known ≡ true → found ≡ None → ⊥) × (known ≡ false → found ≡ None)
is_known known None is = (λ yes. absurd (true≢false (sym yes ∙ is)), λ no. refl)
is_known known (Some name) is = (λ yes none. cc, λ no. absurd (true≢false (sym is ∙ no)))

-- ---- numbers that are marked if they have names

-- With one pair more a number has a name if it is the pair's, or has one without.
one_named : (pairs : List Pair) (pair : Pair) (n : ℕ)
    → is_some (name_of (pairs ++ pair ∷ []) n) ≡ (int_eq pair.1 (pos n) || is_some (name_of pairs n))
one_named [] pair n = elim (cases_Bool (int_eq pair.1 (pos n))) [
  | inl t ↦ rw t refl
  | inr f ↦ rw f refl
]
one_named (first ∷ pairs) pair n = elim (cases_Bool (int_eq first.1 (pos n))) [
  | inl t ↦ rw t (elim (cases_Bool (int_eq pair.1 (pos n))) [
    | inl own ↦ rw own refl
    | inr other ↦ rw other refl
  ])
  | inr f ↦ rw f (one_named pairs pair n)
]

-- Each number below 512 is marked if it has a name among these pairs.
abbrev pub AreMarked : List Pair → List Bool → Type 0
AreMarked pairs marks = (n : ℕ) → n < 512 → slice_index_or marks n false ≡ is_some (name_of pairs n)

-- One number more is marked.
one_marked : (marks : List Bool) (m n : ℕ) (number : ℤ) → number ≡ pos m → m < length marks
    → get_or (set marks m true) n false ≡ (int_eq number (pos n) || get_or marks n false)
one_marked marks m n number is within = elim (cases_eq n m) [
  | inl same ↦
      let met : int_eq number (pos n) ≡ true = (Decides-int_eq number (pos n)).1 (is ∙ ap pos (sym same)) in
      ap (λ k. get_or (set marks m true) k false) same ∙ get_or-set_same marks m true false within
      ∙ sym (ap (λ (b : Bool). b || get_or marks n false) met)
  | inr other ↦
      let apart : int_eq number (pos n) ≡ false = elim (cases_Bool (int_eq number (pos n))) [
        | inl t ↦ absurd (other (let e : pos n ≡ pos m = sym ((Decides-int_eq number (pos n)).0 t) ∙ is in cc))
        | inr f ↦ f
      ] in
      get_or-set_other marks m n true false other ∙ sym (ap (λ (b : Bool). b || get_or marks n false) apart)
]

-- A table's number is converted to itself.
converted : (number : ℤ) → IsTableNumber number → (k : ℕ) × (k < 463) × (number ≡ pos k) × (to_z w64 (of_z w64 number) ≡ pos k)
converted (pos k) range =
    let few : k < 463 = grind (arith, ints, range.1) in
    let fits : k < 2 ^ 63 = omega arith in
    (k, few, refl, to_z_pos w64 k fits)
converted (negsuc k) range = absurd (grind (arith, ints, range.0))

module _ (numbers : List ℤ) (i : ℕ) (within : i < length numbers) {table : List Pair} (is_table : IsCallTable table)
    (of : numbers ≡ map (λ pair. pair.1) table) where
  d : Pair
  d = ([], pos 0)

  here : i < length table
  here = subst (λ n. i < n) (ap length of ∙ length-map table (λ pair. pair.1)) within

  read : (e : ℤ) → get_or numbers i e ≡ (get_or table i d).1
  read e = ap (λ xs. get_or xs i e) of ∙ get_or-map (λ (pair : Pair). pair.1) table i d e here

  in_range : (e : ℤ) → IsTableNumber (get_or numbers i e)
  in_range e = subst IsTableNumber (sym (read e)) (All-get_or (λ (pair : Pair). IsTableNumber pair.1) table i d here is_table.in_range)

  -- The conversion of its number doesn't fail.
  pub is_converted : (e : ℤ) → (FitsUnsignedBits 64 (to_z w64 (of_z w64 (get_or numbers i e))) → ⊥) → ⊥
  is_converted e none =
      let k = converted (get_or numbers i e) (in_range e) in
      let fits : k.0 < 2 ^ 64 = omega (arith, k.1) in
      none (subst (FitsUnsignedBits 64) (sym k.3) fits)

  -- What it is converted to is its number.
  pub number_is : (e : ℤ) (m : ℕ) → m ≡ unsigned_abs (to_z w64 (of_z w64 (get_or numbers i e))) → ((get_or numbers i e) ≡ pos m) × (m < 463)
  number_is e m is =
      let k = converted (get_or numbers i e) (in_range e) in
      let same : m ≡ k.0 = is ∙ ap unsigned_abs k.3 in
      (k.2 ∙ ap pos (sym same), omega (arith, k.1, same))

  -- The number is marked.
  pub marked_more : (e : ℤ) (marks : List Bool) (m : ℕ) → length marks ≡ 512 → m ≡ unsigned_abs (to_z w64 (of_z w64 (get_or numbers i e)))
      → AreMarked (take i table) marks → AreMarked (take (i + 1) table) (set marks m true)
  marked_more e marks m long is so_far n few =
      let own = number_is e m is in
      let pair = get_or table i d in
      let room : m < length marks = omega (arith, own.1, long) in
      one_marked marks m n pair.1 (sym (read e) ∙ own.0) room ∙ ap (λ (b : Bool). int_eq pair.1 (pos n) || b) (so_far n few)
      ∙ sym (one_named (take i table) pair n) ∙ ap (λ (pairs : List Pair). is_some (name_of pairs n)) (sym (take_more table i d here))

-- The first name of a number, from a place on.
pub name_from : (table : List Pair) (place : ℕ) (d : Pair) (n : ℕ) → place < length table
    → name_of (drop place table) n
    ≡ (if int_eq (get_or table place d).1 (pos n) then Some (get_or table place d).0 else name_of (drop (place + 1) table) n)
name_from table place d n within =
    let next : place + 1 ≡ suc place = omega arith in
    rw next (ap (λ pairs. name_of pairs n) (drop-cons table place d within))

-- ---- the parts

-- The parts below a number that has a name, with those in front of it that have none.
pub gap_more : (table : List Pair) (least number : ℕ) (old new : List Part) → ArePartsBelow table old least
    → (least ≡ 0) ⊎ (HasName table (least - 1) ⊎ (least ≡ 2 ^ 30)) → least < number → number < 463
    → ((n : ℕ) → least ≤ n → n < number → LacksName table n) → HasName table number → new ≡ old ++ Unnamed least (number - 1) ∷ []
    → ArePartsBelow table new number
gap_more table least number old new below begins less few unnamed named is =
    let again : number ≡ number - 1 + 1 = omega arith in
    then_gap below
    (record {
      some = omega arith;
      unnamed = λ n from to. unnamed n from (omega arith);
      begins = begins;
      ends = inr (inl (subst (HasName table) again named));
      apart = inl (omega (arith, few));
    })
    is again
