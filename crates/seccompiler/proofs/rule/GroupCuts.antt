-- For `SeccompRule::code_len`: a rule's conditions have one cut into groups, the one that `groups_of` gives, and few relays.
use Rattle.std.proofs.Common.{◌≡◌, ◌+◌, ◌-◌, ◌*◌, ◌<◌, ◌≤◌, List, [], ◌∷◌, ◌++◌, length, refl, sym, ap, ap₂, ◌∙◌, subst, append_assoc}
use Rattle.std.proofs.Common.{length-append, flat_map, arith, inl, inr}
use Rattle.std.proofs.lemmas.Bool.{cases_lt}
use Rattle.std.proofs.lemmas.List.{append_cancel_left}
use Rattle.std.proofs.lemmas.List.Elements.{All-nil, All-cons, All-head, All-tail}
use Rattle.std.proofs.lemmas.List.Sums.{sum_by-append}
use Rattle.seccompiler.specs.Policy.{Condition, size_of}
use Rattle.seccompiler.proofs.rule.RelayCount.{goes_into, closes_at}
use Rattle.seccompiler.specs.Layout.{greatest_offset, total_size, ClosesLate, IsCutIntoGroups, groups_from, groups_of, IsOnlyCut, relays}

-- How two fronts of one list lie: they are equal, or one is a proper front of the other.
data Fronts (one other : List Condition) : Type 0 where
  same : one ≡ other → Fronts one other
  shorter : (c : Condition) (back : List Condition) → other ≡ one ++ c ∷ back → Fronts one other
  longer : (c : Condition) (back : List Condition) → one ≡ other ++ c ∷ back → Fronts one other

-- Two fronts, each with one condition more before it, lie as they did.
fronts_behind : (x y : Condition) (one other : List Condition) → x ≡ y → Fronts one other → Fronts (x ∷ one) (y ∷ other)
fronts_behind x y one other e (same f) = same (cc)
fronts_behind x y one other e (shorter c back f) = shorter c back (cc)
fronts_behind x y one other e (longer c back f) = longer c back (cc)

-- Where two lists, each with more behind it, become the same list, they are two fronts of that list.
two_fronts : (one other rest others : List Condition) → one ++ rest ≡ other ++ others → Fronts one other
two_fronts [] [] rest others e = same refl
two_fronts [] (y ∷ other) rest others e = shorter y other refl
two_fronts (x ∷ one) [] rest others e = longer x one refl
two_fronts (x ∷ one) (y ∷ other) rest others e = fronts_behind x y one other (cc) (two_fronts one other rest others (cc))

-- A group of one condition closes late.
one_closes_late : (c : Condition) → ClosesLate (c ∷ [])
one_closes_late c [] back d e = omega arith
one_closes_late c (x ∷ front) back d e = absurd (omega (arith, ap length e, length-append front (d ∷ back)))

-- A group that is not full closes late with one condition more.
more_closes_late : (group : List Condition) (c : Condition) → ClosesLate group → total_size group < greatest_offset
    → ClosesLate (group ++ c ∷ [])
more_closes_late group c late few front back d e = by (two_fronts group front (c ∷ []) (d ∷ back) e)
  where
    by : Fronts group front → total_size front < greatest_offset
    by (same f) = subst (λ l. total_size l < greatest_offset) f few
    by (shorter x rest f) = let split = length-append front (d ∷ back) in
        absurd (omega (arith, ap length e, ap length f, split, length-append group (c ∷ []), length-append group (x ∷ rest)))
    by (longer x rest f) = late front rest x f

-- A single group that closes late is a cut.
last_cut : (group : List Condition) → 1 ≤ length group → ClosesLate group → IsCutIntoGroups (group ++ []) (group ∷ [])
last_cut group some late = record {
  joined = refl;
  some = All-cons (λ g. 1 ≤ length g) group [] some (All-nil _);
  late = All-cons ClosesLate group [] late (All-nil _);
  full = λ front back g next e. absurd (omega (arith, ap length e, length-append front (g ∷ next ∷ back)));
}

-- A full group before a cut makes a cut.
full_cut : (group q : List Condition) (groups : List (List Condition)) → 1 ≤ length group → ClosesLate group
    → greatest_offset ≤ total_size group → IsCutIntoGroups q groups → IsCutIntoGroups (group ++ q) (group ∷ groups)
full_cut group q groups some late many cut = record {
  joined = ap (λ l. group ++ l) cut.joined;
  some = All-cons (λ g. 1 ≤ length g) group groups some cut.some;
  late = All-cons ClosesLate group groups late cut.late;
  full = is_full;
}
  where
    is_full : (front back : List (List Condition)) (g next : List Condition) → group ∷ groups ≡ front ++ g ∷ next ∷ back
        → greatest_offset ≤ total_size g
    is_full [] back g next e = let here : group ≡ g = cc in subst (λ l. greatest_offset ≤ total_size l) here many
    is_full (first ∷ front) back g next e = cut.full front back g next (cc)

-- The groups of a group that is begun and the conditions behind it are a cut of both.
begun_cut : (group q : List Condition) → 1 ≤ length group → ClosesLate group → IsCutIntoGroups (group ++ q) (groups_from group q)
begun_cut group [] some late = last_cut group some late
begun_cut group (c ∷ q) some late = elim (cases_lt (total_size group) greatest_offset) [
  | inl few ↦ rw (goes_into group q c few, ← append_assoc group (c ∷ []) q)
      (begun_cut (group ++ c ∷ []) q (omega (arith, length-append group (c ∷ []))) (more_closes_late group c late few))
  | inr many ↦ rw (closes_at group q c many)
      (full_cut group (c ∷ q) (groups_from (c ∷ []) q) some late many (begun_cut (c ∷ []) q (omega arith) (one_closes_late c)))
]

-- The groups of a rule's conditions are a cut of them.
groups_of-cut : (q : List Condition) → IsCutIntoGroups q (groups_of q)
groups_of-cut [] = record {
  joined = refl;
  some = All-nil _;
  late = All-nil _;
  full = λ front back g next e. absurd (omega (arith, ap length e, length-append front (g ∷ next ∷ back)));
}
groups_of-cut (c ∷ q) = begun_cut (c ∷ []) q (omega arith) (one_closes_late c)

-- The conditions of the groups, in order.
abbrev join : List (List Condition) → List Condition
join groups = flat_map (λ group. group) groups

-- The groups behind the first are a cut of their conditions.
cut_rest : (q group : List Condition) (groups : List (List Condition)) → IsCutIntoGroups q (group ∷ groups)
    → IsCutIntoGroups (join groups) groups
cut_rest q group groups cut = record {
  joined = refl;
  some = All-tail (λ g. 1 ≤ length g) group groups cut.some;
  late = All-tail ClosesLate group groups cut.late;
  full = λ front back g next e. cut.full (group ∷ front) back g next (ap (λ l. group ∷ l) e);
}

-- The first group of a cut is no proper front of the first group of another cut of the same conditions.
not_shorter : (q group other : List Condition) (groups others : List (List Condition)) (c : Condition) (back : List Condition)
    → IsCutIntoGroups q (group ∷ groups) → IsCutIntoGroups q (other ∷ others) → other ≡ group ++ c ∷ back → ⊥
not_shorter q group other [] others c back cut another e = let tail = length-append group (c ∷ back) in
    let joined = ap length cut.joined in
    omega (arith, joined, ap length another.joined, ap length e, length-append group [], length-append other (join others), tail)
not_shorter q group other (next ∷ groups) others c back cut another e =
    let few : total_size group < greatest_offset = All-head ClosesLate other others another.late group back c e in
    let many : greatest_offset ≤ total_size group = cut.full [] groups group next refl in
    omega arith

-- A cut into no groups and a cut into some are not of the same conditions.
not_empty : (q group : List Condition) (groups : List (List Condition)) → IsCutIntoGroups q [] → IsCutIntoGroups q (group ∷ groups) → ⊥
not_empty q group groups none cut = let some = All-head (λ g. 1 ≤ length g) group groups cut.some in
    omega (arith, ap length none.joined, ap length cut.joined, length-append group (join groups), some)

-- Two cuts of the same conditions are equal.
cuts_same : (q : List Condition) (groups others : List (List Condition)) → IsCutIntoGroups q groups
    → IsCutIntoGroups q others → groups ≡ others
cuts_same q [] [] cut another = refl
cuts_same q [] (other ∷ others) cut another = absurd (not_empty q other others cut another)
cuts_same q (group ∷ groups) [] cut another = absurd (not_empty q group groups another cut)
cuts_same q (group ∷ groups) (other ∷ others) cut another =
    by (two_fronts group other (join groups) (join others) (cut.joined ∙ sym another.joined))
    (cuts_same (join groups) groups others (cut_rest q group groups cut))
  where
    by : Fronts group other → (IsCutIntoGroups (join groups) others → groups ≡ others) → group ∷ groups ≡ other ∷ others
    by (same e) rest_same =
        let whole : group ++ join groups ≡ group ++ join others = cut.joined ∙ sym another.joined ∙ ap (λ l. l ++ join others) (sym e) in
        let rest : join groups ≡ join others = append_cancel_left group (join groups) (join others) whole in
        ap₂ (λ g gs. g ∷ gs) e (rest_same (subst (λ l. IsCutIntoGroups l others) (sym rest) (cut_rest q other others another)))
    by (shorter c back e) rest_same = absurd (not_shorter q group other groups others c back cut another e)
    by (longer c back e) rest_same = absurd (not_shorter q other group others groups c back another cut e)

-- The groups of a rule's conditions are a cut of them, and the only one.
pub groups_of-only : (q : List Condition) → IsOnlyCut q (groups_of q)
groups_of-only q = record { cut = groups_of-cut q; only = λ others cut. cuts_same q others (groups_of q) cut (groups_of-cut q) }

-- The groups of a cut but the last take as many instructions as the border or more each.
cut_small : (q : List Condition) (groups : List (List Condition)) → IsCutIntoGroups q groups
    → greatest_offset * (length groups - 1) ≤ total_size q
cut_small q [] cut = omega arith
cut_small q (group ∷ []) cut = omega arith
cut_small q (group ∷ next ∷ groups) cut = let many : greatest_offset ≤ total_size group = cut.full [] groups group next refl in
    let rest = cut_small (join (next ∷ groups)) (next ∷ groups) (cut_rest q group (next ∷ groups) cut) in
    let total : total_size q ≡ total_size group + total_size (join (next ∷ groups)) =
    ap (λ l. total_size l) (sym cut.joined) ∙ sum_by-append size_of group (join (next ∷ groups)) in
    omega arith

-- A rule's conditions take as many instructions as the border or more for each of its relays.
pub relays_small : (q : List Condition) → greatest_offset * relays q ≤ total_size q
relays_small q = cut_small q (groups_of q) (groups_of-cut q)
