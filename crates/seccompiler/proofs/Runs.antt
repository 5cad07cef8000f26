-- A piece of code does inside a program what it does alone.
use Rattle.std.proofs.Common.{◌≡◌, ℕ, zero, suc, ◌+◌, ◌≤◌, List, [], ◌∷◌, ◌++◌, length, Some, arith, refl, ◌<◌, ◌^◌}
use Rattle.std.specs.Prelude.{slice_get}
use Rattle.seccompiler.specs.declared.bpf.sock_filter.{sock_filter}
use Rattle.seccompiler.specs.Pieces.{Leads}
use Rattle.seccompiler.specs.Machine.{Does, Step, Goes, stays, then_step}

-- the piece stands in the program from this place on
pub record Stands (p : List sock_filter) (base : ℕ) (piece : List sock_filter) : Type 0 where
  pub at : (k : ℕ) (i : sock_filter) → slice_get piece k ≡ Some i → slice_get p (base + k) ≡ Some i

-- what follows a front is found behind it
pub get_behind : (a b : List sock_filter) (k : ℕ) (i : sock_filter) → slice_get b k ≡ Some i → slice_get (a ++ b) (length a + k) ≡ Some i
get_behind [] b k i e = let z : 0 + k ≡ k = omega arith in rw z e
get_behind (x ∷ a) b k i e = let z : length (x ∷ a) + k ≡ suc (length a + k) = omega arith in rw z (get_behind a b k i e)

-- a front is found where it was
pub get_before : (a b : List sock_filter) (k : ℕ) (i : sock_filter) → slice_get a k ≡ Some i → slice_get (a ++ b) k ≡ Some i
get_before [] b k i e = cc
get_before (x ∷ a) b zero i e = e
get_before (x ∷ a) b (suc k) i e = get_before a b k i e

-- an instruction does the same further on, and goes on
does_shift : (i : sock_filter) (r : List ℕ) (base place a place' a' : ℕ) → Does i r place a place' a'
    → Does i r (base + place) a (base + place') a' × (place + 1 ≤ place')
does_shift i r base place a place' a' h = grind arith

step_shift : (p piece : List sock_filter) (r : List ℕ) (base : ℕ) {place a place' a' : ℕ}
    → Stands p base piece → Step piece r place a place' a' → Step p r (base + place) a (base + place') a'
step_shift p piece r base {place} {a} {place'} {a'} s h = record {
  instruction = h.instruction;
  here = s.at place h.instruction h.here;
  before = h.before;
  after = h.after;
  does = (does_shift h.instruction r base place a place' a' h.does).0;
}

-- the lemma on pieces
pub goes_shift : (p piece : List sock_filter) (r : List ℕ) (base : ℕ) {place a n place' a' : ℕ}
    → Stands p base piece → Goes piece r place a n place' a' → Goes p r (base + place) a n (base + place') a'
goes_shift p piece r base s stays = stays
goes_shift p piece r base s (then_step g h) = then_step (goes_shift p piece r base s g) (step_shift p piece r base s h)

-- one run after another
pub goes_on : (p : List sock_filter) (r : List ℕ) {place a m place' a' n place'' a'' : ℕ}
    → Goes p r place a m place' a' → Goes p r place' a' n place'' a'' → Goes p r place a (m + n) place'' a''
goes_on p r {place} {a} {m} {place'} {a'} g stays = let z : m + 0 ≡ m = omega arith in rw z g
goes_on p r {m = m} g (then_step {n = n} f h) = let z : m + suc n ≡ suc (m + n) = omega arith in rw z (then_step (goes_on p r g f) h)

-- a run of n steps goes n places at least
pub goes_far : (p : List sock_filter) (r : List ℕ) {place a n place' a' : ℕ} → Goes p r place a n place' a' → place + n ≤ place'
goes_far p r stays = omega arith
goes_far p r {place} {a} (then_step {n = n} {place' = place'} {a' = a'} {place'' = place''} {a'' = a''} g h) =
    let before = goes_far p r g in let step = (does_shift h.instruction r 0 place' a' place'' a'' h.does).1 in
    omega arith

pub stands_second : (a b : List sock_filter) → Stands (a ++ b) (length a) b
stands_second a b = record { at = λ k i e. get_behind a b k i e }

-- a run between places, and of steps, that are given in other words
pub leads_as : (p : List sock_filter) (r : List ℕ) {x a y x' y' : ℕ} → Leads p r x a y → x ≡ x' → y ≡ y' → Leads p r x' a y'
leads_as p r h e f = rw (← e, ← f) h

pub goes_as : (p : List sock_filter) (r : List ℕ) {x a n y b x' n' y' : ℕ} → Goes p r x a n y b → x ≡ x' → n ≡ n' → y ≡ y'
    → Goes p r x' a n' y' b
goes_as p r g e f h = rw (← e, ← f, ← h) g

-- what the second piece does
pub leads_second : (a b : List sock_filter) (r : List ℕ) (x s y : ℕ) → Leads b r x s y → Leads (a ++ b) r (length a + x) s (length a + y)
leads_second a b r x s y h = record {
  count = h.count;
  accumulator = h.accumulator;
  goes = goes_shift (a ++ b) b r (length a) (stands_second a b) h.goes;
}

-- the accumulator stays in its range
pub stays_small : (p : List sock_filter) (r : List ℕ) {x a n y b : ℕ} → a < 2 ^ 32 → Goes p r x a n y b → b < 2 ^ 32
stays_small p r small stays = small
stays_small p r small (then_step g h) = h.after

-- a run of the first piece is one of both
pub goes_front : (a b : List sock_filter) (r : List ℕ) {x s n y t : ℕ} → Goes a r x s n y t → Goes (a ++ b) r x s n y t
goes_front a b r stays = stays
goes_front a b r (then_step {place' = place'} g h) = then_step (goes_front a b r g) record {
  instruction = h.instruction;
  here = get_before a b place' h.instruction h.here;
  before = h.before;
  after = h.after;
  does = h.does;
}

unfoldable pub leads_front : (a b : List sock_filter) (r : List ℕ) (x s y : ℕ) → Leads a r x s y → Leads (a ++ b) r x s y
leads_front a b r x s y h = record { count = h.count; accumulator = h.accumulator; goes = goes_front a b r h.goes }

-- the first piece to its end, and then the second
pub leads_through : (cc code : List sock_filter) (r : List ℕ) (a y : ℕ) (g : Leads cc r 0 a (length cc))
    → Leads code r 0 g.accumulator y → Leads (cc ++ code) r 0 a (length cc + y)
leads_through cc code r a y g h =
    let k = leads_as (cc ++ code) r {x' = length cc} (leads_second cc code r 0 g.accumulator y h) (omega arith) refl in
    record { count = g.count + k.count; accumulator = k.accumulator; goes = goes_on (cc ++ code) r (goes_front cc code r g.goes) k.goes }

-- what a first piece and then a run in a second do together
pub leads_both : (cc code : List sock_filter) (r : List ℕ) (a x y : ℕ) → a < 2 ^ 32 → Leads cc r 0 a (length cc + x)
    → ((b : ℕ) → b < 2 ^ 32 → Leads code r x b y) → Leads (cc ++ code) r 0 a (length cc + y)
leads_both cc code r a x y small g f = let h = leads_second cc code r x g.accumulator y (f g.accumulator (stays_small cc r small g.goes)) in
    record { count = g.count + h.count; accumulator = h.accumulator; goes = goes_on (cc ++ code) r (goes_front cc code r g.goes) h.goes }

-- one step and then a run
pub via : (p : List sock_filter) (r : List ℕ) (x a y z : ℕ) → Step p r x a y a → Leads p r y a z → Leads p r x a z
via p r x a y z s g = record { count = 1 + g.count; accumulator = g.accumulator; goes = goes_on p r (then_step stays s) g.goes }
