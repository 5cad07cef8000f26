-- For `SyscallTable::lookup`: what one comparison with the middle of a part of a table tells of the look-up in it.
use Rattle.std.proofs.Common.{◌≡◌, ◌≢◌, ℕ, zero, suc, ◌+◌, ◌-◌, ◌*◌, ◌/◌, ◌^◌, ◌<◌, ◌≤◌, ℤ, pos, List, [], ◌∷◌, false, Option, Some, None}
use Rattle.std.proofs.Common.{Ordering, Less, Equal, Greater, nat_cmp, length, map, take, drop, get_or, AllPairs, bytes_eq, if◌then◌else◌}
use Rattle.std.proofs.Common.{inl, inr, refl, sym, ap, ◌∙◌, subst, arith, w64}
use mir.Val.{to_z, of_z}
use Rattle.std.specs.Cmp.Lexicographic.{slice_cmp}
use Rattle.std.specs.Ordering.{is_eq}
use Rattle.std.proofs.Math.Nat.{pow-succ'}
use Rattle.std.proofs.Math.Seq.{drop-cons, drop-drop}
use Rattle.std.proofs.lemmas.Bool.{cases_lt, false_from_ne_true}
use Rattle.std.proofs.lemmas.Cmp.{nat_list_cmp_total, tied_itself}
use Rattle.std.proofs.lemmas.Int.{to_z-of_z, ints}
use Rattle.std.proofs.lemmas.List.{take-append-drop, get_or-take, get_or-drop, get_or-map, drop-take, length-drop}
use Rattle.std.proofs.lemmas.List.{length-take-le, take_rest}
use Rattle.std.proofs.lemmas.Map.Text.{is_eq-slice_cmp}
use Rattle.std.proofs.lemmas.Nat.{pow_pos}
use Rattle.std.proofs.lemmas.Slice.Eq.{bytes_eq-Decides}
use Rattle.seccompiler.specs.SyscallTable.{Pair, IsCallTable, StandsBefore, number_of, ComesBefore, IsMiddle, HalvingCompares}
use Rattle.seccompiler.specs.SyscallTable.{none_left, at_middle, before_middle, behind_middle, IsTableNumber}
use Rattle.seccompiler.proofs.TableNames.{found_among}

-- These places of a table have other names.
abbrev HasNot : List Pair → List ℕ → (ℕ → Type 0) → Type 0
HasNot table name Place = (k : ℕ) (d : Pair) → Place k → k < length table → (get_or table k d).0 ≢ name

-- names that differ are told apart
apart : (pair : Pair) (name : List ℕ) → pair.0 ≢ name → bytes_eq pair.0 name ≡ false
apart pair name other = false_from_ne_true (bytes_eq pair.0 name) (λ same. other ((bytes_eq-Decides pair.0 name).0 same))

-- a table without the name has no number for it
number_of-none : (table : List Pair) (name : List ℕ) → HasNot table name (λ k. 0 ≤ k) → number_of table name ≡ None
number_of-none [] name none = refl
number_of-none (pair ∷ table) name none =
    rw (apart pair name (none 0 pair (omega arith) (omega arith)))
    (number_of-none table name (λ k d at within. none (suc k) d (omega arith) (omega arith)))

-- pairs at the end with other names may be left out
number_of-take : (table : List Pair) (name : List ℕ) (i : ℕ) → HasNot table name (λ k. i ≤ k)
    → number_of (take i table) name ≡ number_of table name
number_of-take [] name zero none = refl
number_of-take [] name (suc i) none = refl
number_of-take (pair ∷ table) name zero none = sym (number_of-none (pair ∷ table) name (λ k d at within. none k d (omega arith) within))
number_of-take (pair ∷ table) name (suc i) none =
    ap (λ (rest : Option ℤ). if bytes_eq pair.0 name then Some pair.1 else rest)
    (number_of-take table name i (λ k d at within. none (suc k) d (omega arith) (omega arith)))

-- pairs at the front with other names may be left out
number_of-drop : (table : List Pair) (name : List ℕ) (i : ℕ) → HasNot table name (λ k. k < i)
    → number_of (drop i table) name ≡ number_of table name
number_of-drop [] name (suc i) none = refl
number_of-drop table name zero none = refl
number_of-drop (pair ∷ table) name (suc i) none =
    rw (apart pair name (none 0 pair (omega arith) (omega arith)))
    (number_of-drop table name i (λ k d at within. none (suc k) d (omega arith) (omega arith)))

-- a name that comes before another isn't that
pub differs : (first second : List ℕ) → ComesBefore first second → first ≢ second
differs first second before = grind (arith, tied_itself, nat_list_cmp_total)

-- what compares as greater comes after
turned : (first second : List ℕ) → slice_cmp nat_cmp first second ≡ Greater → ComesBefore second first
turned first second greater = let mirrored = nat_list_cmp_total.antisymm second first in rw greater at mirrored

-- names that compare as equal are one name
pub tied : (first second : List ℕ) → slice_cmp nat_cmp first second ≡ Equal → first ≡ second
tied first second equal = (bytes_eq-Decides first second).0 (sym (is_eq-slice_cmp first second) ∙ ap is_eq equal)

-- behind a name that the asked one comes before, and at it, no name is the asked one
none_from : (table : List Pair) (name : List ℕ) (i : ℕ) → AllPairs StandsBefore table
    → ((d : Pair) → ComesBefore name (get_or table i d).0) → i < length table → HasNot table name (λ k. i ≤ k)
none_from table name i ascends before inside = grind (arith, cases_lt, nat_list_cmp_total, differs)

-- up to a name that comes before the asked one, and at it, no name is the asked one
none_to : (table : List Pair) (name : List ℕ) (i : ℕ) → AllPairs StandsBefore table → ((d : Pair) → ComesBefore (get_or table i d).0 name)
    → i < length table → HasNot table name (λ k. k < suc i)
none_to table name i ascends before inside = grind (arith, cases_lt, nat_list_cmp_total, differs)

-- a part of a table in which so many comparisons left the asked name, if the table has it
pub record IsHalf (table : List Pair) (name : List ℕ) (compared : ℕ) (part : List Pair) : Type 0 where
  pub same : number_of part name ≡ number_of table name
  pub ascending : AllPairs StandsBefore part
  pub few : compared ≤ 9
  pub most : length part < 2 ^ (9 - compared)
  pub least : 2 ^ (8 - compared) ≤ length part + 1
  pub counted : (n : ℕ) → HalvingCompares name part n → HalvingCompares name table (compared + n)

-- the whole table before any comparison
pub whole : (table : List Pair) (name : List ℕ) → IsCallTable table → IsHalf table name 0 table
whole table name is = grind arith

-- half of fewer than a power of two are fewer than the power below
fewer : (k n half : ℕ) → 0 < n → n < 2 ^ k → half ≤ n / 2 → half < 2 ^ (k - 1)
fewer zero n half some few halved = absurd (omega arith)
fewer (suc k) n half some few halved =
    let below : suc k - 1 ≡ k = omega arith in
    let double : n < 2 * 2 ^ k = rw pow-succ' at few in
    rw below (omega arith)

-- half of a power of two less one, or of more, are the power below less one, or more
enough : (k n half : ℕ) → 2 ^ k ≤ n + 1 → (n + 1) / 2 ≤ half + 1 → 2 ^ (k - 1) ≤ half + 1
enough zero n half many halved = omega arith
enough (suc k) n half many halved =
    let below : suc k - 1 ≡ k = omega arith in
    let double : 2 * 2 ^ k ≤ n + 1 = rw pow-succ' at many in
    rw below (omega arith)

-- a part that isn't empty is left by fewer than nine comparisons
pub below_nine : (compared n : ℕ) → compared ≤ 9 → 0 < n → n < 2 ^ (9 - compared) → compared < 9
below_nine compared n few some most = grind (arith, cases_lt)

-- one more comparison leaves this half of the part
pub halved : (table : List Pair) (name : List ℕ) (compared : ℕ) (part half : List Pair) → IsHalf table name compared part → 0 < length part
    → number_of half name ≡ number_of part name → AllPairs StandsBefore half → length half ≤ length part / 2
    → (length part + 1) / 2 ≤ length half + 1
    → ((n : ℕ) → HalvingCompares name half n → HalvingCompares name part (suc n)) → IsHalf table name (compared + 1) half
halved table name compared part half is some same ascends most least counts = record {
  same = same ∙ is.same;
  ascending = ascends;
  few = omega (arith, below_nine compared (length part) is.few some is.most);
  most = grind (arith, fewer (9 - compared) (length part) (length half) some is.most most);
  least = grind (arith, enough (8 - compared) (length part) (length half) is.least least);
  counted = λ n compares. grind (arith, is.counted (suc n) (counts n compares));
}

-- the part of a table from one place to before another
abbrev pub between : List Pair → ℕ → ℕ → List Pair
between table start end = take (end - start) (drop start table)

-- the whole table
pub between_all : (table : List Pair) → between table 0 (length table) ≡ table
between_all table = take_rest table 0

-- as many pairs as there are places
pub long : (table : List Pair) (start end : ℕ) → end ≤ length table → length (between table start end) ≡ end - start
long table start end within =
    length-take-le (end - start) (drop start table) (omega (arith, within, length-drop start table))

-- the first of fewer pairs
take_fewer : (m n : ℕ) (table : List Pair) → m ≤ n → take m (take n table) ≡ take m table
take_fewer zero n table fewer = refl
take_fewer (suc m) zero table fewer = absurd (omega arith)
take_fewer (suc m) (suc n) [] fewer = refl
take_fewer (suc m) (suc n) (pair ∷ table) fewer = ap (λ pairs. pair ∷ pairs) (take_fewer m n table (omega arith))

-- the front of a part
front : (table : List Pair) (start middle end : ℕ) → start + middle ≤ end
    → take middle (between table start end) ≡ between table start (start + middle)
front table start middle end within =
    let same : start + middle - start ≡ middle = omega arith in
    rw same (take_fewer middle (end - start) (drop start table) (omega arith))

-- the back of a part
back : (table : List Pair) (start middle end : ℕ) → start + middle ≤ end
    → drop middle (between table start end) ≡ between table (start + middle) end
back table start middle end within =
    let split : end - start ≡ middle + (end - (start + middle)) = omega arith in
    rw split (drop-take middle (end - (start + middle)) (drop start table)
    ∙ ap (take (end - (start + middle))) (drop-drop middle start table))

-- the comparison of the asked name with the one in the middle of a part, of two or more names or one
pub record IsCompared (part : List Pair) (name : List ℕ) (middle : ℕ) (answer : Ordering) : Type 0 where
  pub here : middle < length part
  pub half : middle ≡ length part / 2
  pub order : (d : Pair) → slice_cmp nat_cmp name (get_or part middle d).0 ≡ answer

-- the comparison, with the name at a place of the table
pub compared_with : (table : List Pair) (name : List ℕ) (start end : ℕ) {other : List ℕ} {order answer : Ordering} → start < end
    → end ≤ length table → ((d : Pair) → other ≡ (get_or table (start + (end - start) / 2) d).0) → order ≡ answer
    → order ≡ slice_cmp nat_cmp name other → IsCompared (between table start end) name ((end - start) / 2) answer
compared_with table name start end some within there is compared =
    let many = long table start end within in
    record {
      here = omega (arith, many);
      half = ap (λ n. n / 2) (sym many);
      order = λ d.
          let read : get_or (between table start end) ((end - start) / 2) d ≡ get_or table (start + (end - start) / 2) d =
          get_or-take (end - start) (drop start table) ((end - start) / 2) d (omega arith)
          ∙ get_or-drop start table ((end - start) / 2) d in
          rw read (ap (slice_cmp nat_cmp name) (sym (there d)) ∙ sym compared ∙ is);
    }

-- the pair at half the length is the middle one
middle_of : (pairs : List Pair) (middle : ℕ) (d : Pair) → middle < length pairs → middle ≡ length pairs / 2
    → IsMiddle pairs (take middle pairs) (get_or pairs middle d) (drop (middle + 1) pairs)
middle_of pairs middle d here half = grind (arith, length-take-le, length-drop, drop-cons, take-append-drop, cases_lt)

-- what is left where the asked name comes before the middle one
pub lower : (table : List Pair) (name : List ℕ) (compared start middle end : ℕ) → start + middle ≤ end
    → IsHalf table name compared (between table start end) → IsCompared (between table start end) name middle Less
    → IsHalf table name (compared + 1) (between table start (start + middle))
lower table name compared start middle end within is less =
    let part : List Pair = between table start end in
    let d : Pair = ([], pos 0) in
    let few : length (take middle part) ≡ middle = length-take-le middle part (omega (arith, less.here)) in
    subst (IsHalf table name (compared + 1)) (front table start middle end within) (halved table name compared part (take middle part) is
    (omega (arith, less.here)) (number_of-take part name middle (none_from part name middle is.ascending less.order less.here))
    (λ i j d i<j inside. rw (get_or-take middle part i d (omega arith), get_or-take middle part j d (omega arith))
    (is.ascending i j d i<j (omega (arith, less.here)))) (omega (arith, less.half)) (omega (arith, less.half))
    (λ n compares. before_middle (middle_of part middle d less.here less.half) (less.order d) compares))

-- what is left where the asked name comes after the middle one
pub upper : (table : List Pair) (name : List ℕ) (compared start middle end : ℕ) → start + middle < end
    → IsHalf table name compared (between table start end) → IsCompared (between table start end) name middle Greater
    → IsHalf table name (compared + 1) (between table (start + middle + 1) end)
upper table name compared start middle end within is greater =
    let part : List Pair = between table start end in
    let d : Pair = ([], pos 0) in
    let many : length (drop (middle + 1) part) ≡ length part - (middle + 1) = length-drop (middle + 1) part in
    let after = λ (d : Pair). turned name (get_or part middle d).0 (greater.order d) in
    let passed : HasNot part name (λ k. k < suc middle) = none_to part name middle is.ascending after greater.here in
    let next : start + (middle + 1) ≡ start + middle + 1 = omega arith in
    subst (IsHalf table name (compared + 1)) (back table start (middle + 1) end (omega (arith, within))
    ∙ ap (λ place. between table place end) next)
    (halved table name compared part (drop (middle + 1) part) is
    (omega (arith, greater.here)) (number_of-drop part name (middle + 1) (λ k d before inside. passed k d (omega arith) inside))
    (λ i j d i<j inside. rw (get_or-drop (middle + 1) part i d, get_or-drop (middle + 1) part j d)
    (is.ascending (middle + 1 + i) (middle + 1 + j) d (omega arith) (omega arith)))
    (omega (arith, greater.half)) (omega (arith, greater.half))
    (λ n compares. behind_middle (middle_of part middle d greater.here greater.half) (after d) compares))

-- the number of a name that stands at some place
pub number_at : (table : List Pair) (name : List ℕ) (place : ℕ) (numbers : List ℤ) → IsCallTable table
    → numbers ≡ map (λ pair. pair.1) table → place < length table → ((d : Pair) → name ≡ (get_or table place d).0)
    → Some (to_z w64 (of_z w64 (get_or numbers place (pos 0)))) ≡ number_of table name
number_at table name place numbers is same within named =
    let d : Pair = ([], pos 0) in
    let before : HasNot table name (λ k. k < place) = λ k d ahead inside equal.
    differs (get_or table k d).0 (get_or table place d).0 (is.ascending k place d ahead within) (equal ∙ named d) in
    let here = (bytes_eq-Decides (get_or table place d).0 name).1 (sym (named d)) in
    let first : number_of table name ≡ Some (get_or table place d).1 =
    rw (← number_of-drop table name place before, drop-cons table place d within, here) refl in
    let read : get_or numbers place (pos 0) ≡ (get_or table place d).1 =
    rw same (get_or-map (λ (pair : Pair). pair.1) table place d (pos 0) within) in
    let number : Some (get_or numbers place (pos 0)) ≡ number_of table name = ap Some read ∙ sym first in
    let range = found_among IsTableNumber table name _ is.in_range number in
    ap Some (to_z-of_z w64 (get_or numbers place (pos 0)) (grind (arith, ints, range.0, range.1))) ∙ number

-- an empty part is left where the table has no such name
pub absent : (table : List Pair) (name : List ℕ) (compared : ℕ) (part : List Pair) → IsHalf table name compared part
    → length part ≡ 0 → None ≡ number_of table name
absent table name compared [] is none = is.same
absent table name compared (pair ∷ part) is none = absurd (omega arith)

-- an empty part is left by eight comparisons at least
pub missed : (table : List Pair) (name : List ℕ) (compared : ℕ) (part : List Pair) → IsHalf table name compared part
    → length part ≡ 0 → 8 ≤ compared
missed table name compared part is none = elim (cases_lt compared 8) [
  | inl below ↦
      let some : 8 - compared ≡ suc (7 - compared) = omega arith in
      let double = rw (some, pow-succ') at is.least in
      absurd (omega (arith, pow_pos (7 - compared)))
  | inr from ↦ from
]

-- how many names were compared where the asked name is the middle one
pub counted_here : (table : List Pair) (name : List ℕ) (compared middle : ℕ) (part : List Pair) → IsHalf table name compared part
    → IsCompared part name middle Equal → HalvingCompares name table (compared + 1)
counted_here table name compared middle part is equal =
    let d : Pair = ([], pos 0) in
    let same = tied name (get_or part middle d).0 (equal.order d) in
    is.counted 1 (at_middle (middle_of part middle d equal.here equal.half) same)

-- how many names were compared where nothing is left
pub counted_all : (table : List Pair) (name : List ℕ) (compared : ℕ) (part : List Pair) → IsHalf table name compared part
    → length part ≡ 0 → HalvingCompares name table compared
counted_all table name compared [] is none =
    let same : compared + 0 ≡ compared = omega arith in
    subst (HalvingCompares name table) same (is.counted 0 none_left)
counted_all table name compared (pair ∷ part) is none = absurd (omega arith)
