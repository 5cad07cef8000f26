-- Pieces of code that may return: their runs, and the blocks that they are made of.
use Rattle.std.proofs.Common.{◌≡◌, ℕ, ◌+◌, ◌≤◌, List, [], ◌∷◌, ◌++◌, length, refl, arith, ◌⊎◌, inl, inr}
use Rattle.seccompiler.specs.declared.bpf.sock_filter.{sock_filter}
use Rattle.seccompiler.specs.Code.{give}
use Rattle.seccompiler.specs.Machine.{stays, Goes}
use Rattle.seccompiler.specs.Pieces.{IsInside, IsClosed, Leads}
use Rattle.seccompiler.specs.ChainCode.{ReturnsAfter, Returns, IsBlock}
use Rattle.seccompiler.proofs.Runs.{get_before, get_behind, goes_shift, goes_on, goes_front, stands_second, goes_as}
use Rattle.seccompiler.proofs.Closed.{inside_shift, get_split, Each, each_at}

-- a return of the first of two pieces is one of both
pub front_returns : (a b : List sock_filter) (r : List ℕ) (x s n w : ℕ) → ReturnsAfter a r x s n w → ReturnsAfter (a ++ b) r x s n w
front_returns a b r x s n w h = grind (arith, goes_front, get_before)

pub returns_front : (a b : List sock_filter) (r : List ℕ) (x s w : ℕ) → Returns a r x s w → Returns (a ++ b) r x s w
returns_front a b r x s w h = (h.0, front_returns a b r x s h.0 w h.1)

-- a run to the end of the first piece, and then a return of the second
pub back_returns : (a b : List sock_filter) (r : List ℕ) (s s' m n w : ℕ) → Goes (a ++ b) r 0 s m (length a) s'
    → ReturnsAfter b r 0 s' n w → ReturnsAfter (a ++ b) r 0 s (m + n) w
back_returns a b r s s' m n w g h = let shifted = goes_shift (a ++ b) b r (length a) (stands_second a b) h.goes in
    let second = goes_as (a ++ b) r {x' = length a} shifted (omega arith) refl refl in
    record {
      to = length a + h.to;
      accumulator = h.accumulator;
      instruction = h.instruction;
      goes = goes_on (a ++ b) r g second;
      here = get_behind a b h.to h.instruction h.here;
      returns = h.returns;
      value = h.value;
    }

pub returns_back : (a b : List sock_filter) (r : List ℕ) (s w : ℕ) (g : Leads (a ++ b) r 0 s (length a))
    → Returns b r 0 g.accumulator w → Returns (a ++ b) r 0 s w
returns_back a b r s w g h = (g.count + h.0, back_returns a b r s g.accumulator g.count h.0 w g.goes h.1)

-- a return that is entered
pub gives : (w : ℕ) (back : List sock_filter) (r : List ℕ) (s : ℕ) → ReturnsAfter (give w ∷ back) r 0 s 0 w
gives w back r s = record { to = 0; accumulator = s; instruction = give w; goes = stays; here = refl; returns = refl; value = refl }

-- one block and then another
pub block_join : (a b : List sock_filter) (m n m' : ℕ) → IsBlock a m → IsBlock b n → m ≤ m' → length a + n ≤ m' → IsBlock (a ++ b) m'
block_join a b m n m' ba bb le_a le_b = grind (arith, inside_shift, get_split)

-- a closed piece is a block
pub block_from_closed : (a : List sock_filter) (m : ℕ) → IsClosed a m → IsBlock a m
block_from_closed a m h = record { each = λ k i e. inl (h.each k i e) }

-- so are instructions that return, or may stand in it
pub block_from : (is : List sock_filter) (m : ℕ) → Each (λ k i. (IsInside i k m) ⊎ (i.code ≡ 0x06)) 0 is → IsBlock is m
block_from is m h = record { each = λ k i e. each_at (λ k i. (IsInside i k m) ⊎ (i.code ≡ 0x06)) is 0 k k i h e (omega arith) }

pub block_give : (w m : ℕ) → IsBlock (give w ∷ []) m
block_give w m = block_from (give w ∷ []) m (inr refl, tt)
