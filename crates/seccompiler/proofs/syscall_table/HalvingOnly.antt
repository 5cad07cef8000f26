-- For `SyscallTable::lookup`: a look-up by halving compares a name with one number of names.
use Rattle.std.proofs.Common.{◌≡◌, ℕ, suc, List, ◌∷◌, ◌++◌, length, take, refl, sym, ap, ◌∙◌, subst, arith}
use Rattle.std.proofs.Math.Seq.{take-append_seam}
use Rattle.std.proofs.lemmas.Cmp.{nat_list_cmp_total}
use Rattle.std.proofs.lemmas.List.{append_cancel_left, length-append}
use Rattle.seccompiler.specs.SyscallTable.{Pair, ComesBefore, IsMiddle, HalvingCompares, none_left, at_middle, before_middle, behind_middle}
use Rattle.seccompiler.proofs.syscall_table.Halving.{differs}

-- a name doesn't come before another that comes before it
not_both : (first second : List ℕ) → ComesBefore first second → ComesBefore second first → ⊥
not_both first second before after = differs first first (nat_list_cmp_total.trans first second first before after) refl

-- an empty part has no middle
no_middle : {part front back : List Pair} {middle : Pair} → IsMiddle part front middle back → length part ≡ 0 → ⊥
no_middle is empty = grind (arith, length-append)

-- a part has one middle
middle_only : {part other front front' back back' : List Pair} {middle middle' : Pair} → IsMiddle part front middle back
    → IsMiddle other front' middle' back' → part ≡ other → (front ≡ front') × (middle ≡ middle') × (back ≡ back')
middle_only {part} {other} {front} {front'} {back} {back'} {middle} {middle'} is also same =
    let joined : front ++ middle ∷ back ≡ front' ++ middle' ∷ back' = sym is.whole ∙ same ∙ also.whole in
    let long = length-append front (middle ∷ back) in
    let also_long = length-append front' (middle' ∷ back') in
    let as_long : length front ≡ length front' = grind (arith, ap length joined) in
    let as_many : take (length front) (front ++ middle ∷ back) ≡ take (length front') (front' ++ middle' ∷ back') = cc (joined, as_long) in
    let fronts : front ≡ front' = sym (take-append_seam front (middle ∷ back)) ∙ as_many ∙ take-append_seam front' (middle' ∷ back') in
    let with_same : front' ++ middle ∷ back ≡ front' ++ middle' ∷ back' = ap (λ pairs. pairs ++ middle ∷ back) (sym fronts) ∙ joined in
    let behind : middle ∷ back ≡ middle' ∷ back' = append_cancel_left front' (middle ∷ back) (middle' ∷ back') with_same in
    (fronts, cc, cc)

-- what comes before or behind the middle one isn't that, and not both
module _ (name : List ℕ) {part other front front' back back' : List Pair} {middle middle' : Pair}
    (is : IsMiddle part front middle back) (also : IsMiddle other front' middle' back') (same : part ≡ other) where
  one : middle.0 ≡ middle'.0
  one = ap (λ pair. pair.0) (middle_only is also same).1

  not_at_before : name ≡ middle.0 → ComesBefore name middle'.0 → ⊥
  not_at_before here before = differs name middle'.0 before (here ∙ one)

  not_at_behind : name ≡ middle.0 → ComesBefore middle'.0 name → ⊥
  not_at_behind here after = differs middle'.0 name after (sym (here ∙ one))

  not_before_behind : ComesBefore name middle.0 → ComesBefore middle'.0 name → ⊥
  not_before_behind before after = not_both name middle'.0 (subst (ComesBefore name) one before) after

-- a look-up in a part compares one number of names
pub compares_only : (name : List ℕ) {part other : List Pair} {n m : ℕ} → HalvingCompares name part n → HalvingCompares name other m
    → part ≡ other → n ≡ m
compares_only name none_left none_left same = refl
compares_only name none_left (at_middle is _) same = absurd (no_middle is (ap length (sym same)))
compares_only name none_left (before_middle is _ _) same = absurd (no_middle is (ap length (sym same)))
compares_only name none_left (behind_middle is _ _) same = absurd (no_middle is (ap length (sym same)))
compares_only name (at_middle is _) none_left same = absurd (no_middle is (ap length same))
compares_only name (at_middle is here) (at_middle also there) same = refl
compares_only name (at_middle is here) (before_middle also before _) same = absurd (not_at_before name is also same here before)
compares_only name (at_middle is here) (behind_middle also after _) same = absurd (not_at_behind name is also same here after)
compares_only name (before_middle is _ _) none_left same = absurd (no_middle is (ap length same))
compares_only name (before_middle is before _) (at_middle also there) same = absurd (not_at_before name also is (sym same) there before)
compares_only name (before_middle is _ rest) (before_middle also _ more) same =
    ap suc (compares_only name rest more (middle_only is also same).0)
compares_only name (before_middle is before _) (behind_middle also after _) same = absurd (not_before_behind name is also same before after)
compares_only name (behind_middle is _ _) none_left same = absurd (no_middle is (ap length same))
compares_only name (behind_middle is after _) (at_middle also there) same = absurd (not_at_behind name also is (sym same) there after)
compares_only name (behind_middle is after _) (before_middle also before _) same =
    absurd (not_before_behind name also is (sym same) before after)
compares_only name (behind_middle is _ rest) (behind_middle also _ more) same =
    ap suc (compares_only name rest more (middle_only is also same).2)
