-- Closed pieces: where the jumps of a piece lead, alone and inside a longer one.
use Rattle.std.proofs.Common.{◌≡◌, ℕ, zero, suc, ◌+◌, ◌≤◌, List, [], ◌∷◌, ◌++◌, length, Some, arith, ◌⊎◌, inl, inr, ⊎_elim}
use Rattle.std.specs.Prelude.{slice_get}
use Rattle.seccompiler.specs.declared.bpf.sock_filter.{sock_filter}
use Rattle.seccompiler.specs.Machine.{IsInRange, AreInRange}
use Rattle.seccompiler.specs.Pieces.{IsInside, inside_load, inside_mask, inside_jump, inside_equal, inside_greater, inside_at_least}
use Rattle.seccompiler.specs.Pieces.{IsClosed}

-- an instruction further on, of a piece that leaves at most further on
pub inside_shift : (i : sock_filter) (base place m m' : ℕ) → base + m ≤ m' → IsInside i place m → IsInside i (base + place) m'
inside_shift i base place m m' le h = grind (arith, inside_load, inside_mask, inside_jump, inside_equal, inside_greater, inside_at_least)

-- an element of two lists is one of the first or of the second
pub get_split : (a b : List sock_filter) (k : ℕ) (i : sock_filter) → slice_get (a ++ b) k ≡ Some i
    → (slice_get a k ≡ Some i) ⊎ ((j : ℕ) × (k ≡ length a + j) × (slice_get b j ≡ Some i))
get_split [] b k i e = inr (k, omega arith, e)
get_split (x ∷ a) b zero i e = inl e
get_split (x ∷ a) b (suc k) i e = ⊎_elim (λ h. inl h)
    (λ h. inr (h.0, omega (arith, h.1), h.2)) (get_split a b k i e)

-- one piece and then another
pub closed_join : (a b : List sock_filter) (m n m' : ℕ) → IsClosed a m → IsClosed b n → m ≤ m' → length a + n ≤ m' → IsClosed (a ++ b) m'
closed_join a b m n m' ca cb le_a le_b = grind (arith, inside_shift, get_split)

-- a fact of each instruction of a list, from a place on
abbrev pub Each : (ℕ → sock_filter → Type 0) → ℕ → List sock_filter → Type 0
Each P place [] = Unit {0}
Each P place (i ∷ is) = P place i × Each P (place + 1) is

pub each_at : (P : ℕ → sock_filter → Type 0) (is : List sock_filter) (base k place : ℕ) (i : sock_filter) → Each P base is
    → slice_get is k ≡ Some i → place ≡ base + k → P place i
each_at P [] base k place i h e at = cc
each_at P (x ∷ is) base zero place i h e at = let same : x ≡ i = cc in let here : base ≡ place = omega arith in rw (← same, ← here) h.0
each_at P (x ∷ is) base (suc k) place i h e at = each_at P is (base + 1) k place i h.1 e (omega arith)

pub closed_from : (is : List sock_filter) (m : ℕ) → Each (λ k i. IsInside i k m) 0 is → IsClosed is m
closed_from is m h = record { each = λ k i e. each_at (λ k i. IsInside i k m) is 0 k k i h e (omega arith) }

pub ranges_from : (is : List sock_filter) → Each (λ k i. IsInRange i) 0 is → AreInRange is
ranges_from is h = record { each = λ k i e. each_at (λ k i. IsInRange i) is 0 k k i h e (omega arith) }

-- the ranges of one piece and then another
pub ranges_join : (a b : List sock_filter) → AreInRange a → AreInRange b → AreInRange (a ++ b)
ranges_join a b ra rb = record { each = λ k i e. ⊎_elim (λ h. ra.each k i h) (λ h. rb.each h.0 i h.2) (get_split a b k i e) }
