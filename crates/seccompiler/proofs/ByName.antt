-- Look-ups by name in lists of values, in order or not, and what is made of such a list value by value, or collected of it.
use Rattle.std.proofs.Common.{◌≡◌, ℕ, ◌++◌, List, [], ◌∷◌, true, false, cond, Option, Some, None, String, Global, Less, string_bytes, Vec}
use Rattle.std.proofs.Common.{string_cmp, string_eq, bytes_eq, refl, sym, ap, ◌∙◌, subst, append_assoc, append-nil, arith, length, ◌+◌, ◌≤◌}
use Rattle.std.proofs.Common.{Result, IfOk}
use Rattle.std.specs.BTreeMap.{BTreeMap, is_at}
use Rattle.std.specs.BTreeMap as tree
use Rattle.std.specs.HashMap.{HashMap}
use Rattle.std.specs.HashMap as hash
use Rattle.std.specs.List.{AllByRecursion, AllZip, IsDistinct}
use Rattle.std.specs.Bool.{⊤}
use Rattle.std.specs.Iterator.{DrainsIf}
use Rattle.std.specs.List.Sorted.{IsStrictlySortedBy}
use Rattle.std.specs.Map.{keys_of, lookup}
use Rattle.std.specs.Option.{MatchOption}
use Rattle.std.specs.Ordering.{eq_by_cmp}
use Rattle.std.specs.String.{string_eq_equiv, string_cmp_total}
use Rattle.std.specs.Vec.Iter.{into_iter_items, into_iter_len, into_iter_steps}
use Rattle.std.specs.declared.vec.IntoIter.{IntoIter}
use Rattle.std.proofs.lemmas.Iterator.Adapters.{fact_from_collect, YieldsList-from_vec}
use Rattle.std.proofs.lemmas.List.Elements.{Contains-append_right}
use Rattle.std.proofs.lemmas.List.{nil_from_length}
use Rattle.std.proofs.lemmas.Map.{lookup-none}
use Rattle.std.proofs.lemmas.Map.Entries.{place_from_lookup, none_below_head}
use Rattle.std.proofs.lemmas.Map.Keys.{IsDistinct-from_sorted, sorted_tail}
use Rattle.std.proofs.lemmas.Map.Made.{update_all_none}
use Rattle.std.proofs.lemmas.Map.Text.{is_eq-slice_cmp, text_cmp}
use Rattle.std.proofs.lemmas.Map.Views.{lookup-from_Contains}
use Rattle.std.proofs.lemmas.Slice.Eq.{bytes_eq-Decides}
use Rattle.seccompiler.specs.JsonFilters.{under}
use Rattle.seccompiler.specs.SyscallTable.{ComesBefore}

-- Values, each with its name.
abbrev pub ByName : Type 0 → Type 0
ByName X = List (String Global × X)

-- The names stand in byte order, and each stands once.
abbrev pub AreInOrder : {X : Type 0} → ByName X → Type 0
AreInOrder values = IsStrictlySortedBy string_cmp (keys_of values)

module _ {X : Type 0} where
  -- What is found stands under a key of that name.
  key_of : (q : List ℕ) (xs : ByName X) (x : X) → under xs q ≡ Some x → (key : String Global) × (string_bytes key ≡ q)
  key_of q xs x there = let place = place_from_lookup (λ key. bytes_eq q (string_bytes key)) xs x there in
      (place.1, sym ((bytes_eq-Decides q (string_bytes place.1)).0 place.3))

  -- An ordered map finds a name as a list does.
  pub by_text : (q : List ℕ) (xs : ByName X) → lookup (is_at (text_cmp q)) xs ≡ under xs q
  by_text q [] = refl
  by_text q (e ∷ xs) = rw (is_eq-slice_cmp q (string_bytes e.0), by_text q xs) refl

  -- What is found in front of others is found.
  in_front : (q : List ℕ) (front back : ByName X) → under back q ≡ None → under (front ++ back) q ≡ under front q
  in_front q [] back none = none
  in_front q (e ∷ front) back none = ap (cond (bytes_eq q (string_bytes e.0)) (Some e.1)) (in_front q front back none)

  behind : (front back : ByName X) → AreInOrder (front ++ back) → AreInOrder back
  behind [] back h = h
  behind (e ∷ front) back h = behind front back (sorted_tail string_cmp e.0 (keys_of (front ++ back)) h)

  -- In order, no name stands twice.
  pub once : (xs : ByName X) → AreInOrder xs → IsDistinct string_eq (keys_of xs)
  once xs h = grind (arith, is_eq-slice_cmp, IsDistinct-from_sorted)

  -- Each value is found under its name.
  pub found_there : (front : ByName X) (e : String Global × X) (back : ByName X) → AreInOrder (front ++ e ∷ back)
      → under (front ++ e ∷ back) (string_bytes e.0) ≡ Some e.1
  found_there front e back h = lookup-from_Contains string_eq_equiv e.0 e.1 (front ++ e ∷ back)
      (once _ h) (Contains-append_right front (e ∷ back) e (0, omega arith, refl))

  -- What is found under a name below another stands in front of that one.
  pub found_in_front : (front : ByName X) (e : String Global × X) (back : ByName X) → AreInOrder (front ++ e ∷ back)
      → (q : List ℕ) (x : X) → under (front ++ e ∷ back) q ≡ Some x → ComesBefore q (string_bytes e.0) → under front q ≡ Some x
  found_in_front front e back h q x there less =
      let key = key_of q (front ++ e ∷ back) x there in
      let below : string_cmp key.0 e.0 ≡ Less = subst (λ r. ComesBefore r (string_bytes e.0)) (sym key.1) less in
      let none = sym (by_text (string_bytes key.0) (e ∷ back)) ∙ lookup-none (is_at (string_cmp key.0)) (e ∷ back)
      (none_below_head string_cmp_total key.0 e back (behind front (e ∷ back) h) below) in
      sym (in_front q front (e ∷ back) (subst (λ r. under (e ∷ back) r ≡ None) key.1 none)) ∙ there

  -- Where the same is found by each key, the same is found by each name.
  same_by_name : (xs ys : ByName X) → ((key : String Global) → lookup (string_eq key) xs ≡ lookup (string_eq key) ys)
      → (q : List ℕ) → under xs q ≡ under ys q
  same_by_name xs ys same q = by (under xs q) (under ys q) refl refl
    where
      at : (key : String Global) → string_bytes key ≡ q → under xs q ≡ under ys q
      at key is = subst (λ r. under xs r ≡ under ys r) is (same key)

      by : (a b : Option X) → under xs q ≡ a → under ys q ≡ b → under xs q ≡ under ys q
      by None None e f = e ∙ sym f
      by (Some x) b e f = let key = key_of q xs x e in at key.0 key.1
      by None (Some y) e f = let key = key_of q ys y f in at key.0 key.1

  -- A map that is made of a list in order finds what the list has.
  pub hashed : {S : Type 0} (xs : ByName X) (m : HashMap (String Global) X S) → AreInOrder xs
      → hash.IsFromIterResult string_eq xs m → (q : List ℕ) → hash.get_by_text m q ≡ under xs q
  hashed xs m order made = same_by_name m.entries xs (λ key. made.0 key
      ∙ update_all_none string_eq_equiv string_eq (λ x y. refl) xs key (once xs order))

  pub ordered : (xs : ByName X) (m : BTreeMap (String Global) X) → AreInOrder xs → tree.IsFromIterResult string_cmp xs m
      → (q : List ℕ) → tree.get_by_text m q ≡ under xs q
  ordered xs m order made q = by_text q m.entries ∙ same_by_name m.entries xs found q
    where
      ties : (x y : String Global) → eq_by_cmp string_cmp x y ≡ string_eq x y
      ties x y = is_eq-slice_cmp (string_bytes x) (string_bytes y)

      found : (key : String Global) → lookup (string_eq key) m.entries ≡ lookup (string_eq key) xs
      found key = sym (by_text (string_bytes key) m.entries) ∙ made.0 key
          ∙ update_all_none string_eq_equiv (eq_by_cmp string_cmp) ties xs key (once xs order)

-- Of each value one is made that R relates to it, under the same name.
abbrev pub AreMade : {X Y : Type 0} → (X → Y → Type 0) → ByName X → ByName Y → Type 0
AreMade R xs ys = AllZip (λ x y. (string_bytes y.0 ≡ string_bytes x.0) × R x.1 y.1) xs ys

module _ {X Y : Type 0} (R : X → Y → Type 0) where
  made_more : (xs : ByName X) (ys : ByName Y) (x : String Global × X) (y : String Global × Y)
      → AreMade R xs ys → string_bytes y.0 ≡ string_bytes x.0 → R x.1 y.1 → AreMade R (xs ++ x ∷ []) (ys ++ y ∷ [])
  made_more [] [] x y h name made = ((name, made), tt)
  made_more (a ∷ xs) (b ∷ ys) x y h name made = (h.0, made_more xs ys x y h.1 name made)
  made_more _ _ x y h name made = absurd h

  -- The names are the same, so they stand in the same order.
  all_below : (a b : String Global) → string_bytes b ≡ string_bytes a → (xs : ByName X) (ys : ByName Y) → AreMade R xs ys
      → AllByRecursion (λ key. string_cmp a key ≡ Less) (keys_of xs) → AllByRecursion (λ key. string_cmp b key ≡ Less) (keys_of ys)
  all_below a b same [] [] h below = below
  all_below a b same (x ∷ xs) (y ∷ ys) h below = (rw (same, h.0.0) below.0, all_below a b same xs ys h.1 below.1)
  all_below a b same _ _ h below = absurd h

  same_order : (xs : ByName X) (ys : ByName Y) → AreMade R xs ys → AreInOrder xs → AreInOrder ys
  unfolding IsStrictlySortedBy
  same_order [] [] h order = order
  same_order (x ∷ xs) (y ∷ ys) h order = (all_below x.0 y.0 h.0.0 xs ys h.1 order.0, same_order xs ys h.1 order.1)
  same_order _ _ h order = absurd h

  -- What a loop has made of the values so far, and the values that are left, for which there is room.
  pub record IsMaking (given left : ByName X) (ys : Vec (String Global × Y) Global) : Type 0 where
    pub done : ByName X
    pub all : given ≡ done ++ left
    pub made : AreMade R done ys.items
    pub room : ys.len + length left ≤ ys.cap

  pub making_none : (given left : ByName X) (ys : Vec (String Global × Y) Global) → left ≡ given → ys.items ≡ []
      → ys.len + length left ≤ ys.cap → IsMaking given left ys
  making_none given left ys whole none room = record { done = []; all = sym whole; made = rw none tt; room = room }

  module _ {given left : ByName X} {ys : Vec (String Global × Y) Global} (so_far : IsMaking given left ys) where
    pub at_next : (x : String Global × X) (rest : ByName X) → left ≡ x ∷ rest → given ≡ so_far.done ++ x ∷ rest
    at_next x rest next = so_far.all ∙ ap (λ es. so_far.done ++ es) next

    pub making_more : (x : String Global × X) (y : String Global × Y) (rest : ByName X) (zs : Vec (String Global × Y) Global)
        → left ≡ x ∷ rest → zs.items ≡ ys.items ++ y ∷ [] → zs.len ≡ ys.len + 1 → zs.cap ≡ ys.cap
        → string_bytes y.0 ≡ string_bytes x.0 → R x.1 y.1 → IsMaking given rest zs
    making_more x y rest zs next added longer same name own = grind (arith, at_next, append_assoc, made_more)

    -- In the end all of what was given are made, in the same order.
    pub making_done : (listed : ByName X) → given ≡ listed → length left ≡ 0 → AreInOrder listed
        → AreMade R listed ys.items × AreInOrder ys.items
    making_done listed gives none order = grind (arith, nil_from_length, append-nil, same_order)

  -- Under a name there is what is made of the value that is found; where none is found, there is nothing.
  pub made_under : (xs : ByName X) (ys : ByName Y) → AreMade R xs ys → (q : List ℕ)
      → MatchOption (under xs q) (under ys q ≡ None) (λ x. (y : Y) × (under ys q ≡ Some y) × R x y)
  made_under [] [] h q = refl
  made_under (a ∷ xs) (b ∷ ys) h q =
      rw h.0.0 (elim (bytes_eq q (string_bytes a.0)) as
      (λ t. MatchOption (cond t (Some a.1) (under xs q)) (cond t (Some b.1) (under ys q) ≡ None)
      (λ x. (y : Y) × (cond t (Some b.1) (under ys q) ≡ Some y) × R x y)) [ true ↦ (b.1, refl, h.0.1) | false ↦ made_under xs ys h.1 q ])
  made_under _ _ h q = absurd h

-- What is collected of a vector's items is so of all of them.
pub collected_of : {A V E : Type 0} (Q : List A → V → Type 0) (v : Vec A Global) (it : IntoIter A Global) (r : Result V E)
    → into_iter_items it ≡ v.items → into_iter_len it ≡ v.len
    → IfOk r (λ made. (xs : List A) × DrainsIf (into_iter_steps {X = A} {Z = Global}) ⊤ it xs × Q xs made) → IfOk r (Q v.items)
collected_of Q v it r items long ran = fact_from_collect Q r ran (YieldsList-from_vec {s = it} v.items items (long ∙ v.ok.0))
