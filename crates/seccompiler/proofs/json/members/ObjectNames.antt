-- For `members_under`: what an object has under a name, and whether its names are all among some.
use Rattle.std.proofs.Common.{◌≡◌, ℕ, zero, suc, ◌≤◌, ◌<◌, List, [], ◌∷◌, length, take, true, false, nat_lt, Option, Some, option_map, refl}
use Rattle.std.proofs.Common.{sym, ap, ◌∙◌, subst, arith, bytes_eq, ◌↔◌, ◌⊎◌, inl, inr, Contains, string_bytes, string_cmp, map, get_or}
use Rattle.std.proofs.Math.ListN.{set}
use Rattle.std.specs.Bool.{⊤}
use Rattle.std.specs.Borrow.{Bor}
use Rattle.std.specs.List.{list_any, position_or_len, AllZip}
use Rattle.std.specs.Option.{option_or}
use Rattle.std.specs.List.Sorted.{IsStrictlySortedBy}
use Rattle.std.specs.Map.{keys_of}
use Rattle.std.specs.Ordering.{is_eq}
use Rattle.std.proofs.Math.Bool.{or-false}
use Rattle.std.proofs.lemmas.Map.Text.{is_eq-slice_cmp}
use Rattle.std.proofs.lemmas.Bool.{true≢false, cases_Bool, le-ltb, lt-ltb}
use Rattle.std.proofs.lemmas.Bool.Decides.{nat_tests}
use Rattle.std.proofs.lemmas.Cmp.{nat_list_eq_equiv}
use Rattle.std.proofs.lemmas.Map.Views.{Contains-from_any, list_any-from_Contains}
use Rattle.std.proofs.lemmas.Slice.Eq.{bytes_eq-Decides}
use Rattle.serde_json.specs.Data.{Data, object, no_members}
use Rattle.serde_json.specs.Find.{get, get_member}
use Rattle.serde_json.specs.View.{view, members_view}
use Rattle.serde_json.specs.declared.value.Value.{Value}
use Rattle.serde_json.proofs.Views.{Entry, member_here, member_later}
use Rattle.seccompiler.specs.JsonShape.{HasOnly, AreApart}

-- What is found, as the data that it is.
abbrev pub data_of : Option (Bor Value) → Option Data
data_of found = option_map (λ v. view v.now) found

-- What an object has under each of some names is what was found of it, or else what is under it among the members that
-- are left.
abbrev pub AreSought : Data → List Entry → List (List ℕ) → List (Option Data) → Type 0
AreSought d left [] [] = ⊤
AreSought d left (key ∷ names) (found ∷ all) = (get key d ≡ option_or found (get_member key (members_view left)))
    × AreSought d left names all
AreSought d left _ _ = ⊥

-- The first place of a name among some; their number if it is none of them.
abbrev pub place_in : List (List ℕ) → List ℕ → ℕ
place_in ns name = position_or_len (λ n. bytes_eq n name) ns

-- A name is among the first n where its place is one of them.
among : (n : ℕ) (ns : List (List ℕ)) (name : List ℕ) → n ≤ length ns
    → list_any (bytes_eq name) (take n ns) ≡ nat_lt (place_in ns name) n
among zero ns name few = sym (le-ltb (place_in ns name) 0 (omega arith))
among (suc n) [] name few = absurd (omega arith)
among (suc n) (m ∷ ns) name few = elim (cases_Bool (bytes_eq m name)) [
  | inl own ↦ rw (own, nat_list_eq_equiv.symm name m ∙ own) (sym (lt-ltb _ _ (omega arith)))
  | inr other ↦ rw (other, nat_list_eq_equiv.symm name m ∙ other) (among n ns name (omega arith) ∙ grind (arith, nat_tests))
]

-- What was found, and something more at a place, if nothing was found there.
abbrev pub or_at : ℕ → Data → List (Option Data) → List (Option Data)
or_at place v [] = []
or_at zero v (o ∷ all) = option_or o (Some v) ∷ all
or_at (suc place) v (o ∷ all) = o ∷ or_at place v all

-- The member of an object that is first, and those behind it.
module _ (e : Entry) (left : List Entry) where
  -- What is under a name is the first member's value, if the name is its own, or else what the others have.
  first_or_later : (other : List ℕ)
      → ((bytes_eq other (string_bytes e.0) ≡ true) × (get_member other (members_view (e ∷ left)) ≡ Some (view e.1)))
      ⊎ ((bytes_eq other (string_bytes e.0) ≡ false) × (get_member other (members_view (e ∷ left)) ≡ get_member other (members_view left)))
  first_or_later other = grind (arith, cases_Bool, member_here, bytes_eq-Decides, member_later)

  -- The names of an object are among some where the first member's is, and the others' are.
  only_step : (names : List (List ℕ)) → HasOnly (object (members_view (e ∷ left))) names
      ↔ ((list_any (bytes_eq (string_bytes e.0)) names ≡ true) × HasOnly (object (members_view left)) names)
  only_step names = (
    λ h. (
      list_any-from_Contains {eq = bytes_eq} nat_list_eq_equiv (string_bytes e.0) names
          (h.no_other (string_bytes e.0) (view e.1) (member_here (string_bytes e.0) e left refl)),
      record {
        is_object = (members_view left, refl);
        no_other = λ other v there. elim (first_or_later other) [
          | inl own ↦ h.no_other other (view e.1) own.1
          | inr later ↦ h.no_other other v (later.1 ∙ there)
        ];
      },
    ),
    λ h. record {
      is_object = (members_view (e ∷ left), refl);
      no_other = λ other v there. elim (first_or_later other) [
        | inl own ↦ subst (Contains names) (sym ((bytes_eq-Decides other (string_bytes e.0)).0 own.0))
            (Contains-from_any {eq = bytes_eq} (λ x y. (bytes_eq-Decides x y).0) (string_bytes e.0) names h.0)
        | inr later ↦ h.1.no_other other v (sym later.1 ∙ there)
      ];
    },
  )

  -- What is left of an object's names is as the whole, and stays so behind a name that is among some.
  only_left : (names : List (List ℕ)) {P : Type 0} → (HasOnly (object (members_view (e ∷ left))) names ↔ P)
      → list_any (bytes_eq (string_bytes e.0)) names ≡ true → HasOnly (object (members_view left)) names ↔ P
  only_left names so_far among = (λ h. so_far.0 ((only_step names).1 (among, h)), λ h. ((only_step names).0 (so_far.1 h)).1)

  -- The whole has another name where the first that is left is not among some.
  only_fails : (names : List (List ℕ)) {P : Type 0} → (HasOnly (object (members_view (e ∷ left))) names ↔ P)
      → list_any (bytes_eq (string_bytes e.0)) names ≡ false → P → ⊥
  only_fails names so_far not h = let e = sym not ∙ ((only_step names).0 (so_far.1 h)).0 in cc

  -- What has other names stays sought.
  others : (d : Data) (names : List (List ℕ)) (all : List (Option Data)) → list_any (bytes_eq (string_bytes e.0)) names ≡ false
      → AreSought d (e ∷ left) names all → AreSought d left names all
  others d (key ∷ names) (o ∷ all) apart is = elim (first_or_later key) [
    | inl own ↦ let e = rw (nat_list_eq_equiv.symm (string_bytes e.0) key ∙ own.0) at apart in absurd (true≢false e)
    | inr later ↦ (
      is.0 ∙ ap (option_or o) later.1,
      others d names all (rw (nat_list_eq_equiv.symm (string_bytes e.0) key ∙ later.0) at apart) is.1,
    )
  ]
  others d _ _ apart is = is

  -- A member less is left, which was found if nothing was found under its name.
  sought_more : (d : Data) (names : List (List ℕ)) (all : List (Option Data)) (place : ℕ) → place ≡ place_in names (string_bytes e.0)
      → AreApart names → AreSought d (e ∷ left) names all → AreSought d left names (or_at place (view e.1) all)
  sought_more d [] [] place placed apart is = tt
  sought_more d (key ∷ names) (o ∷ all) place placed apart is = elim (first_or_later key) [
    | inl own ↦ let here : place ≡ 0 = placed ∙ rw own.0 refl in rw here (
      is.0 ∙ ap (option_or o) own.1 ∙ grind arith,
      others d names all (rw ((bytes_eq-Decides key (string_bytes e.0)).0 own.0) at apart.0) is.1,
    )
    | inr later ↦ let behind : place ≡ suc (place_in names (string_bytes e.0)) = placed ∙ rw later.0 (omega arith) in
        rw behind (is.0 ∙ ap (option_or o) later.1, sought_more d names all _ refl apart.1 is.1)
  ]
  sought_more d _ _ place placed apart is = absurd is

-- So far: the object has only some of the names if the members that are left do; and what it has under each of the names
-- was found, or is sought.
pub record IsSoFar (d : Data) (left : List Entry) (names : List (List ℕ)) (count : ℕ) (all : List (Option Data)) : Type 0 where
  pub only : HasOnly (object (members_view left)) (take count names) ↔ HasOnly d (take count names)
  pub sought : AreSought d left names all

module _ (e : Entry) (left : List Entry) (d : Data) (names : List (List ℕ)) (count : ℕ) (all : List (Option Data))
    (name : List ℕ) (place : ℕ) (few : count ≤ length names) (same : name ≡ string_bytes e.0) (placed : place ≡ place_in names name)
    (so_far : IsSoFar d (e ∷ left) names count all) where
  -- The first member that is left has one of the names.
  pub one_more : (k : ℕ) → place ≡ k → AreApart names → place < count → IsSoFar d left names count (or_at k (view e.1) all)
  one_more k at apart small = rw (← at) record {
    only = only_left e left (take count names) so_far.only
        (rw (← same, among count names name few) (lt-ltb _ _ (omega (arith, placed, small))));
    sought = sought_more e left d names all place (rw same at placed) apart so_far.sought;
  }

  -- It has none of them.
  pub another : count ≤ place → HasOnly d (take count names) → ⊥
  another large = only_fails e left (take count names) so_far.only
      (rw (← same, among count names name few) (le-ltb _ _ (omega (arith, placed, large))))

-- Nothing is left: what an object has under each name is what was found.
found_all : (d : Data) (names : List (List ℕ)) (all : List (Option Data)) → AreSought d [] names all
    → AllZip (λ found key. found ≡ get key d) all names
found_all d [] [] is = tt
found_all d (key ∷ names) (o ∷ all) is = (sym (is.0 ∙ grind arith), found_all d names all is.1)
found_all d _ _ is = absurd is

-- So it is at the end, where no other name is left either.
pub at_end : (d : Data) (left : List Entry) (names : List (List ℕ)) (count : ℕ) (all : List (Option Data)) → left ≡ []
    → IsSoFar d left names count all → HasOnly d (take count names) × AllZip (λ found key. found ≡ get key d) all names
at_end d left names count all none so_far = grind (arith, found_all)

-- What is found, or else a member.
found_or : (o : Option (Bor Value)) (v : Bor Value) → data_of (option_or o (Some v)) ≡ option_or (data_of o) (Some (view v.now))
found_or o v = grind arith

pub found_at : (found : List (Option (Bor Value))) (place : ℕ) (x : Option (Bor Value)) (v : Bor Value)
    → map data_of (set found place (option_or (get_or found place x) (Some v))) ≡ or_at place (view v.now) (map data_of found)
found_at [] zero x v = refl
found_at [] (suc place) x v = refl
found_at (o ∷ found) zero x v = ap (λ d. d ∷ map data_of found) (found_or o v)
found_at (o ∷ found) (suc place) x v = ap (λ all. data_of o ∷ all) (found_at found place x v)

-- A list of five is that of what stands at its places.
pub five : {X : Type 0} (all : List X) (a b c d e : X) → length all ≡ 5
    → all ≡ get_or all 0 a ∷ get_or all 1 b ∷ get_or all 2 c ∷ get_or all 3 d ∷ get_or all 4 e ∷ []
five (v ∷ w ∷ x ∷ y ∷ z ∷ []) a b c d e long = refl
five _ a b c d e long = absurd (omega arith)

-- An object of one member has its name alone.
pub one_name : (name : List ℕ) (entries : List Entry) (x : Data) → length entries ≡ 1 → get name (object (members_view entries)) ≡ Some x
    → HasOnly (object (members_view entries)) (name ∷ [])
one_name name [] x one there = cc
one_name name (e ∷ []) x one there = (only_step e [] (name ∷ [])).1 (
  elim (first_or_later e [] name) [
    | inl own ↦ rw (nat_list_eq_equiv.symm (string_bytes e.0) name, own.0) refl
    | inr later ↦ let none = sym later.1 ∙ there in cc
  ],
  record { is_object = (no_members, refl); no_other = λ other v none. cc },
)
one_name name (e ∷ f ∷ more) x one there = absurd (omega (arith, one))

-- An object of another number of members has not one name alone.
pub not_one_name : (name : List ℕ) (entries : List Entry) (x : Data) → IsStrictlySortedBy string_cmp (keys_of entries)
    → (length entries ≡ 1 → ⊥) → get name (object (members_view entries)) ≡ Some x → HasOnly (object (members_view entries)) (name ∷ []) → ⊥
unfolding IsStrictlySortedBy
not_one_name name [] x sorted other there only = cc
not_one_name name (e ∷ []) x sorted other there only = other refl
not_one_name name (e ∷ f ∷ more) x sorted other there only =
    let first = (only_step e (f ∷ more) (name ∷ [])).0 only in
    let second = (only_step f more (name ∷ [])).0 first.1 in
    let own = (bytes_eq-Decides (string_bytes e.0) name).0 (sym (or-false (bytes_eq (string_bytes e.0) name)) ∙ first.0) in
    let twin = (bytes_eq-Decides (string_bytes f.0) name).0 (sym (or-false (bytes_eq (string_bytes f.0) name)) ∙ second.0) in
    let same = (bytes_eq-Decides (string_bytes e.0) (string_bytes f.0)).1 (own ∙ sym twin) in
    true≢false (sym same ∙ sym (is_eq-slice_cmp (string_bytes e.0) (string_bytes f.0)) ∙ ap is_eq sorted.0.0)
