-- For `SeccompCondition::write`: what the code of each comparison does: it leaves at its end where the comparison
-- holds, and d places further where not.
use Rattle.std.proofs.Common.{◌≡◌, ℕ, ◌+◌, ◌*◌, ◌/◌, ◌%◌, ◌<◌, ◌≤◌, ◌^◌, List, [], ◌∷◌, length, refl, sym, ap, ◌∙◌, arith, ◌⊎◌, inl, inr}
use Rattle.std.proofs.Common.{⊎_elim}
use Rattle.std.specs.Prelude.{bit_and}
use Rattle.std.proofs.lemmas.Nat.{and_le_l}
use Rattle.seccompiler.specs.declared.bpf.sock_filter.{sock_filter}
use Rattle.seccompiler.specs.declared.backend.SeccompCmpOp.{SeccompCmpOp}
use Rattle.seccompiler.specs.declared.backend.SeccompCmpOp.TheVariants.{Eq, Ge, Gt, Le, Lt, MaskedEq, Ne}
use Rattle.seccompiler.specs.declared.backend.SeccompCmpArgLen.{SeccompCmpArgLen}
use Rattle.seccompiler.specs.declared.backend.SeccompCmpArgLen.TheVariants.{Dword, Qword}
use Rattle.seccompiler.specs.Machine.{word_at, Step, Goes, stays, then_step}
use Rattle.seccompiler.specs.Code.{load, jump_equal, jump_greater}
use Rattle.seccompiler.specs.Policy.{part_of, operator_part, Compares}
use Rattle.seccompiler.specs.ConditionCode.{comparison_code}
use Rattle.seccompiler.specs.Pieces.{Exits}
use Rattle.seccompiler.proofs.Words.{mask_halves}
use Rattle.seccompiler.proofs.Steps.{on_load, on_mask, on_equal, on_greater, on_at_least, arrive}

-- a test at a place: the fact holds and the run goes to one place, or it does not and the run goes to another
abbrev Tests : List sock_filter → List ℕ → ℕ → ℕ → ℕ → ℕ → Type 0 → Type 0
Tests p r place a held failed fact = (fact × Step p r place a held a) ⊎ ((fact → ⊥) × Step p r place a failed a)

-- a test in other words
reworded : {A B X Y X' Y' : Type 0} → (X → X') → (Y → Y') → (X × A) ⊎ (Y × B) → (X' × A) ⊎ (Y' × B)
reworded f g t = ⊎_elim (λ u. inl (f u.0, u.1)) (λ u. inr (g u.0, u.1)) t

-- the test the other way round
turned : {A B X Y X' Y' : Type 0} → (X → Y') → (Y → X') → (X × A) ⊎ (Y × B) → (X' × B) ⊎ (Y' × A)
turned f g t = ⊎_elim (λ u. inr (f u.0, u.1)) (λ u. inl (g u.0, u.1)) t

-- of an argument x whose low and high half are the words X and Y of the record, compared with v
module _ (low v d x X Y : ℕ) (r : List ℕ) (within : low + 8 ≤ length r) (fits_X : X < 2 ^ 32)
    (fits_Y : Y < 2 ^ 32) (is_X : X ≡ word_at r low) (is_Y : Y ≡ word_at r (low + 4)) (is_x : x ≡ X + 2 ^ 32 * Y)
    (a : ℕ) (small : a < 2 ^ 32) where
  -- a run to a test by which it leaves
  tested : (p : List sock_filter) (fact : Type 0) {n place b : ℕ} → Goes p r 0 a n place b
      → Tests p r place b (length p) (length p + d) fact → Exits p d r a fact
  tested p fact g t = ⊎_elim (λ u. inl (u.0, arrive p r _ (then_step g u.1) refl)) (λ u. inr (u.0, arrive p r _ (then_step g u.1) refl)) t

  -- a load of the low half and a test
  low_half : (test : sock_filter) (fact : Type 0) → let p = load low ∷ test ∷ [] in Tests p r 1 X 2 (2 + d) fact → Exits p d r a fact
  low_half test fact t =
      let p = load low ∷ test ∷ [] in tested p fact (then_step stays (on_load p r 0 a low X refl (omega arith) small fits_X is_X)) t

  -- a fact that an unequal high half settles; between equal ones the low half is tested
  halves : (up down : ℕ) (test : sock_filter) (fact : Type 0)
      → let p = load (low + 4) ∷ jump_greater (v / 2 ^ 32) up 0 ∷ jump_equal (v / 2 ^ 32) 0 down ∷ load low ∷ test ∷ [] in
      (v / 2 ^ 32 < Y → (fact × (2 + up ≡ 5)) ⊎ ((fact → ⊥) × (2 + up ≡ 5 + d)))
      → (Y < v / 2 ^ 32 → (fact × (3 + down ≡ 5)) ⊎ ((fact → ⊥) × (3 + down ≡ 5 + d)))
      → (Y ≡ v / 2 ^ 32 → Tests p r 4 X 5 (5 + d) fact) → Exits p d r a fact
  halves up down test fact greater less test_low =
      let p = load (low + 4) ∷ jump_greater (v / 2 ^ 32) up 0 ∷ jump_equal (v / 2 ^ 32) 0 down ∷ load low ∷ test ∷ [] in
      let g = then_step stays (on_load p r 0 a (low + 4) Y refl (omega arith) small fits_Y is_Y) in
      ⊎_elim (λ t. let k = then_step g t.1 in
      ⊎_elim (λ u. inl (u.0, arrive p r 5 k u.1)) (λ u. inr (u.0, arrive p r (5 + d) k u.1)) (greater t.0))
      (λ t. ⊎_elim (λ s. tested p fact
      (then_step (then_step (then_step g t.1) s.1) (on_load p r 3 Y low X refl (omega arith) fits_Y fits_X is_X)) (test_low s.0))
      (λ s. let k = then_step (then_step g t.1) s.1 in
      ⊎_elim (λ u. inl (u.0, arrive p r 5 k u.1)) (λ u. inr (u.0, arrive p r (5 + d) k u.1)) (less (omega (arith, s.0))))
      (on_equal p r 2 Y (v / 2 ^ 32) 0 down refl fits_Y)) (on_greater p r 1 Y (v / 2 ^ 32) up 0 refl fits_Y)

  pub comparison_exits : (len : SeccompCmpArgLen) (op : SeccompCmpOp)
      → Exits (comparison_code len op low v d) d r a (Compares (operator_part len op) (part_of len x) (part_of len v))
  comparison_exits Dword Eq = low_half _ _ (reworded (λ e. omega arith) (λ n h. n (omega arith)) (on_equal _ r 1 X _ 0 d refl fits_X))
  comparison_exits Dword Ne = low_half _ _ (turned (λ e h. h (omega arith)) (λ n h. n (omega arith)) (on_equal _ r 1 X _ d 0 refl fits_X))
  comparison_exits Dword Ge = low_half _ _ (reworded (λ e. omega arith) (λ n h. omega arith) (on_at_least _ r 1 X _ 0 d refl fits_X))
  comparison_exits Dword Gt = low_half _ _ (reworded (λ e. omega arith) (λ n h. omega arith) (on_greater _ r 1 X _ 0 d refl fits_X))
  comparison_exits Dword Le = low_half _ _ (turned (λ e h. omega arith) (λ n. omega arith) (on_greater _ r 1 X _ d 0 refl fits_X))
  comparison_exits Dword Lt = low_half _ _ (turned (λ e h. omega arith) (λ n. omega arith) (on_at_least _ r 1 X _ d 0 refl fits_X))
  comparison_exits Dword (MaskedEq m) = let p = comparison_code Dword (MaskedEq m) low v d in
      let M = m % 2 ^ 32 in let e : x % 2 ^ 32 ≡ X = omega arith in
      let same : bit_and (x % 2 ^ 32) M ≡ bit_and X M = ap (λ n. bit_and n M) e in
      let g = then_step (then_step stays (on_load p r 0 a low X refl (omega arith) small fits_X is_X)) (on_mask p r 1 X M refl fits_X) in
      tested p _ g (reworded (λ e. same ∙ e) (λ n h. n (sym same ∙ h))
      (on_equal p r 2 (bit_and X M) (bit_and (v % 2 ^ 32) M) 0 d refl (omega (arith, and_le_l X M))))
  comparison_exits Qword Eq = let p = comparison_code Qword Eq low v d in
      let g = then_step stays (on_load p r 0 a (low + 4) Y refl (omega arith) small fits_Y is_Y) in
      ⊎_elim (λ t.
      let k = then_step (then_step g t.1) (on_load p r 2 Y low X refl (omega arith) fits_Y fits_X is_X) in
      tested p _ k (reworded (λ u. omega arith) (λ u h. u (omega arith)) (on_equal p r 3 X (v % 2 ^ 32) 0 d refl fits_X)))
      (λ t. inr (λ h. t.0 (omega arith), arrive p r (4 + d) (then_step g t.1) (omega arith)))
      (on_equal p r 1 Y (v / 2 ^ 32) 0 (d + 2) refl fits_Y)
  comparison_exits Qword Ne = let p = comparison_code Qword Ne low v d in
      let g = then_step stays (on_load p r 0 a (low + 4) Y refl (omega arith) small fits_Y is_Y) in
      ⊎_elim (λ t.
      let k = then_step (then_step g t.1) (on_load p r 2 Y low X refl (omega arith) fits_Y fits_X is_X) in
      tested p _ k (turned (λ u h. h (omega arith)) (λ u h. u (omega arith)) (on_equal p r 3 X (v % 2 ^ 32) d 0 refl fits_X)))
      (λ t. inl (λ h. t.0 (omega arith), arrive p r 4 (then_step g t.1) refl)) (on_equal p r 1 Y (v / 2 ^ 32) 0 2 refl fits_Y)
  comparison_exits Qword Ge = halves 3 (d + 2) _ _ (λ t. inl (omega arith, refl)) (λ t. inr (λ h. omega arith, omega arith))
      (λ s. reworded (λ u. omega arith) (λ u h. omega arith) (on_at_least _ r 4 X (v % 2 ^ 32) 0 d refl fits_X))
  comparison_exits Qword Gt = halves 3 (d + 2) _ _ (λ t. inl (omega arith, refl)) (λ t. inr (λ h. omega arith, omega arith))
      (λ s. reworded (λ u. omega arith) (λ u h. omega arith) (on_greater _ r 4 X (v % 2 ^ 32) 0 d refl fits_X))
  comparison_exits Qword Le = halves (d + 3) 2 _ _ (λ t. inr (λ h. omega arith, omega arith)) (λ t. inl (omega arith, refl))
      (λ s. turned (λ u h. omega arith) (λ u. omega arith) (on_greater _ r 4 X (v % 2 ^ 32) d 0 refl fits_X))
  comparison_exits Qword Lt = halves (d + 3) 2 _ _ (λ t. inr (λ h. omega arith, omega arith)) (λ t. inl (omega arith, refl))
      (λ s. turned (λ u h. omega arith) (λ u. omega arith) (on_at_least _ r 4 X (v % 2 ^ 32) d 0 refl fits_X))
  comparison_exits Qword (MaskedEq m) = let p = comparison_code Qword (MaskedEq m) low v d in
      let M = m % 2 ^ 32 in let N = m / 2 ^ 32 in let V = v % 2 ^ 32 in
      let W = v / 2 ^ 32 in let eX : x % 2 ^ 32 ≡ X = omega arith in let eY : x / 2 ^ 32 ≡ Y = omega arith in
      let of_x : bit_and x m ≡ bit_and Y N * 2 ^ 32 + bit_and X M = rw (eX, eY) at (mask_halves x m) in
      let of_v : bit_and v m ≡ bit_and W N * 2 ^ 32 + bit_and V M = mask_halves v m in
      let small_X : bit_and X M < 2 ^ 32 = omega (arith, and_le_l X M) in
      let small_Y : bit_and Y N < 2 ^ 32 = omega (arith, and_le_l Y N) in
      let small_V : bit_and V M < 2 ^ 32 = omega (arith, and_le_l V M) in
      let g = then_step (then_step stays (on_load p r 0 a (low + 4) Y refl (omega arith) small fits_Y is_Y))
      (on_mask p r 1 Y N refl fits_Y) in
      ⊎_elim (λ t.
      let k = then_step (then_step (then_step g t.1) (on_load p r 3 (bit_and Y N) low X refl (omega arith) small_Y fits_X is_X))
      (on_mask p r 4 X M refl fits_X) in
      tested p _ k (reworded (λ u. omega arith) (λ u h. u (omega arith)) (on_equal p r 5 (bit_and X M) (bit_and V M) 0 d refl small_X)))
      (λ t. inr (λ h. t.0 (omega arith), arrive p r (6 + d) (then_step g t.1) (omega arith)))
      (on_equal p r 2 (bit_and Y N) (bit_and W N) 0 (d + 3) refl small_Y)
