-- For `unfit_number`: which keys of a map are call numbers, and the least that is none.
use Rattle.std.proofs.Common.{◌≡◌, ℤ, pos, ◌≤ℤ◌, ◌<ℤ◌, None, Some, IsSome, Equal, refl, sym, ◌↔◌, ◌⊎◌, inl, inr, arith, get_or}
use Rattle.std.specs.Prelude.{All, Contains}
use Rattle.std.specs.BTreeMap.{BTreeMap, get, keys}
use Rattle.std.specs.BTreeMap.Range.{IsLeBy}
use Rattle.std.specs.Ordering.{int_cmp}
use Rattle.std.specs.Cmp.{int_ranks}
use Rattle.std.proofs.lemmas.Bool.{true≢false}
use Rattle.std.proofs.lemmas.Cmp.{int_cmp_total}
use Rattle.std.proofs.lemmas.Int.{ints}
use Rattle.std.proofs.lemmas.List.Elements.{All-contains, Contains-get_or}
use Rattle.std.proofs.lemmas.Map.Views.{btree_map_contains_key_iff}
use Rattle.seccompiler.specs.Policy.{IsCallNumber}
use Rattle.seccompiler.specs.Compiled.{AreCallNumbers, IsLeastUnfit}

call_number : (m : ℤ) → pos 0 ≤ℤ m → m <ℤ pos 4294967296 → IsCallNumber m
call_number m low high = grind (arith, ints)

at_most : (x y : ℤ) → IsLeBy int_cmp x y → x ≤ℤ y
at_most x y le = grind (arith, ints, int_ranks x y)

exact : (x y : ℤ) → int_cmp x y ≡ Equal → x ≡ y
exact x y same = grind (arith, ints, int_ranks x y)

-- A number that fits 32 unsigned bits, or one behind them.
fits_or_large : (m : ℤ) → IsLeBy int_cmp (pos 4294967296) m ⊎ (m <ℤ pos 4294967296)
fits_or_large m = grind (arith, ints, int_ranks (pos 4294967296) m)

-- A map's least key, if it is below 0, is the least that is no call number.
pub negative : {X : Type 0} (m : BTreeMap ℤ X) (n : ℤ) (x : X) → All (IsLeBy int_cmp n) (keys m) → get int_cmp m n ≡ Some x → n <ℤ pos 0
    → IsLeastUnfit (keys m) n
negative m n x from there below = record {
  among = (btree_map_contains_key_iff int_cmp_total exact m n).0 (rw there refl);
  unfit = λ call. absurd (omega (arith, ints, below, call.1));
  least = λ q among bad. at_most n q (All-contains (IsLeBy int_cmp n) (keys m) q from among);
}

-- The keys of a map from a least one on, which is not below 0.
module _ {X : Type 0} (m : BTreeMap ℤ X) (least : ℤ) (from : All (IsLeBy int_cmp least) (keys m)) (positive : pos 0 ≤ℤ least) where
  there : (q : ℤ) → IsSome (get int_cmp m q) ↔ Contains (keys m) q
  there = btree_map_contains_key_iff int_cmp_total exact m

  small : (q : ℤ) → Contains (keys m) q → q <ℤ pos 4294967296 → IsCallNumber q
  small q among below = grind (arith, call_number, at_most, All-contains, ints)

  -- All are call numbers if none is larger than they are.
  pub all_fit : ((q : ℤ) → IsLeBy int_cmp (pos 4294967296) q → get int_cmp m q ≡ None) → AreCallNumbers (keys m)
  all_fit none k d within =
      let q = get_or (keys m) k d in
      let among = Contains-get_or (keys m) k d within in
      elim (fits_or_large q) [
        | inl large ↦ absurd (true≢false (sym (rw (none q large) at ((there q).1 among))))
        | inr below ↦ small q among below
      ]

  -- The least of the larger ones is the least that is no call number.
  pub least_large : (n : ℤ) → IsLeBy int_cmp (pos 4294967296) n → IsSome (get int_cmp m n)
      → ((q : ℤ) → IsLeBy int_cmp (pos 4294967296) q → IsSome (get int_cmp m q) → IsLeBy int_cmp n q) → IsLeastUnfit (keys m) n
  least_large n large some first = record {
    among = (there n).0 some;
    unfit = λ call. let above = at_most (pos 4294967296) n large in absurd (omega (arith, ints, above, call.1, call.2));
    least = λ q among bad. elim (fits_or_large q) [
      | inl also ↦ at_most n q (first q also ((there q).1 among))
      | inr below ↦ absurd (bad (small q among below))
    ];
  }
