-- Pieces of a program: where their instructions stand, and what they do there.
use Rattle.std.proofs.Common.{◌≡◌, ◌≢◌, ℕ, zero, suc, ◌+◌, ◌*◌, ◌<◌, List, [], ◌∷◌, ◌++◌, length, Some, refl, ap, ◌∙◌, subst, arith}
use Rattle.std.proofs.Common.{⊎_elim, ◌⊎◌, inl, inr, map}
use Rattle.std.specs.Prelude.{option_map, slice_get}
use Rattle.std.specs.List.{flat_map}
use Rattle.std.proofs.lemmas.Bool.{cases_eq}
use Rattle.std.proofs.lemmas.Bool.Decides.{nat_tests}
use Rattle.std.proofs.lemmas.List.{get_or_append_left, get_or-append-add, length-append, length-map}
use Rattle.std.proofs.lemmas.Option.{get_or_from_slice_get, slice_get-get_or, slice_get-map, slice_get_within}
use Rattle.seccompiler.specs.declared.bpf.sock_filter.{sock_filter}
use Rattle.seccompiler.specs.Code.{give}
use Rattle.seccompiler.specs.Machine as of_seven
use Rattle.seccomp_compare.specs.Machine.{Does, as_of_seven, has_bits, has_no_bits, EndsFrom, returns, goes_on}
use Rattle.seccomp_stack.specs.Stack.{prevailing}
use Rattle.seccomp_stack.specs.Joined.{place_of, in_copy, copy}

-- the piece stands in the program from this place on
pub record Stands (p : List sock_filter) (base : ℕ) (piece : List sock_filter) : Type 0 where
  pub at : (k : ℕ) (i : sock_filter) → slice_get piece k ≡ Some i → slice_get p (base + k) ≡ Some i

-- what is found is of the front, or behind it
pub get_either : (a b : List sock_filter) (k : ℕ) (i : sock_filter) → slice_get (a ++ b) k ≡ Some i
    → (slice_get a k ≡ Some i) ⊎ ((m : ℕ) × (k ≡ length a + m) × (slice_get b m ≡ Some i))
get_either [] b k i e = inr (k, omega arith, e)
get_either (x ∷ a) b zero i e = inl e
get_either (x ∷ a) b (suc k) i e =
    ⊎_elim (λ before. inl before) (λ behind. let same = behind.1 in inr (behind.0, omega arith, behind.2)) (get_either a b k i e)

pub stands_front : (a b : List sock_filter) → Stands (a ++ b) 0 a
stands_front a b = record {
  at = λ k i e.
      let within = slice_get_within a k i e in
      let z : 0 + k ≡ k = omega arith in
      rw z (slice_get-get_or (a ++ b) k i (omega (arith, length-append a b))
      ∙ ap Some (get_or_append_left a b i k within ∙ get_or_from_slice_get a k i i e));
}

pub stands_behind : (a b : List sock_filter) → Stands (a ++ b) (length a) b
stands_behind a b = record {
  at = λ k i e.
      let within = slice_get_within b k i e in
      slice_get-get_or (a ++ b) (length a + k) i (omega (arith, length-append a b))
      ∙ ap Some (get_or-append-add a b k i ∙ get_or_from_slice_get b k i i e);
}

-- a piece of a piece
pub stands_in : (p q piece : List sock_filter) (base off at : ℕ) → at ≡ base + off → Stands p base q → Stands q off piece
    → Stands p at piece
stands_in p q piece base off at same outer inner = record {
  at = λ k i e.
      let z : at + k ≡ base + (off + k) = omega arith in
      rw z (outer.at (off + k) i (inner.at k i e));
}

-- the copy for a word stands among all of them
pub copy_stands : (newer : List sock_filter) (words : List ℕ) (word : ℕ) → place_of words word < length words
    → Stands (flat_map (copy newer) words) (place_of words word * (length newer + 1)) (copy newer word)
copy_stands newer [] word has = absurd (omega arith)
copy_stands newer (w ∷ words) word has =
    ⊎_elim
    (λ same.
    let first : place_of (w ∷ words) word * (length newer + 1) ≡ 0 = grind (arith, nat_tests) in
    let own : copy newer w ≡ copy newer word = ap (copy newer) same in
    rw first (subst (Stands (flat_map (copy newer) (w ∷ words)) 0) own (stands_front (copy newer w) (flat_map (copy newer) words))))
    (λ other.
    let next : place_of (w ∷ words) word ≡ suc (place_of words word) = grind (arith, nat_tests) in
    let there : place_of words word < length words = omega arith in
    let long : length (copy newer w) ≡ length newer + 1 = ap suc (length-map newer (in_copy w)) ∙ omega arith in
    stands_in (flat_map (copy newer) (w ∷ words)) (flat_map (copy newer) words) (copy newer word) (length (copy newer w))
    (place_of words word * (length newer + 1)) (place_of (w ∷ words) word * (length newer + 1))
    (ap (λ n. n * (length newer + 1)) next ∙ omega arith)
    (stands_behind (copy newer w) (flat_map (copy newer) words))
    (copy_stands newer words word there))
    (cases_eq w word)

-- an instruction that does something is no return
pub no_return : (i : sock_filter) (r : List ℕ) (place a place' a' : ℕ) → Does i r place a place' a' → i.code ≢ 0x06
no_return i r place a place' a' (as_of_seven does) = λ is. grind arith
no_return i r place a place' a' (has_bits code test to same) = λ is. omega arith
no_return i r place a place' a' (has_no_bits code test to same) = λ is. omega arith

seven_shift : (i : sock_filter) (r : List ℕ) (base place a place' a' : ℕ) → of_seven.Does i r place a place' a'
    → of_seven.Does i r (base + place) a (base + place') a'
seven_shift i r base place a place' a' does = grind arith

-- an instruction does the same further on
does_shift : (i : sock_filter) (r : List ℕ) (base place a place' a' : ℕ) → Does i r place a place' a'
    → Does i r (base + place) a (base + place') a'
does_shift i r base place a place' a' (as_of_seven does) = as_of_seven (seven_shift i r base place a place' a' does)
does_shift i r base place a place' a' (has_bits code test to same) = has_bits code test (omega arith) same
does_shift i r base place a place' a' (has_no_bits code test to same) = has_no_bits code test (omega arith) same

-- an instruction of a list that a function is applied to
get_map : (f : sock_filter → sock_filter) (xs : List sock_filter) (k : ℕ) (i : sock_filter) → slice_get xs k ≡ Some i
    → slice_get (map f xs) k ≡ Some (f i)
get_map f xs k i e = slice_get-map f xs k ∙ ap (option_map f) e

kept : (word : ℕ) (i : sock_filter) → i.code ≢ 0x06 → in_copy word i ≡ i
kept word i other = grind (arith, nat_tests)

given : (word : ℕ) (i : sock_filter) → i.code ≡ 0x06 → in_copy word i ≡ give (prevailing word i.k)
given word i is = grind (arith, nat_tests)

-- from a place of the newer program, its copy goes on as it does, and returns the word that prevails
pub copy_runs : (p newer : List sock_filter) (r : List ℕ) (base v : ℕ) → Stands p base (copy newer v) → {place a m w : ℕ}
    → EndsFrom newer r place a m w → EndsFrom p r (base + 1 + place) a m (prevailing v w)
copy_runs p newer r base v stands {place} {a} (returns i here code) =
    let z : base + 1 + place ≡ base + suc place = omega arith in
    let at : slice_get p (base + suc place) ≡ Some (give (prevailing v i.k)) =
    stands.at (suc place) (give (prevailing v i.k)) (get_map (in_copy v) newer place i here ∙ ap Some (given v i code)) in
    rw z (returns (give (prevailing v i.k)) at refl)
copy_runs p newer r base v stands {place} {a} (goes_on {place' = place'} {a' = a'} i here does e) =
    let z : base + 1 + place ≡ base + suc place = omega arith in
    let at : slice_get p (base + suc place) ≡ Some i =
    stands.at (suc place) i (get_map (in_copy v) newer place i here ∙ ap Some (kept v i (no_return i r place a place' a' does))) in
    goes_on i (rw z at) (does_shift i r (base + 1) place a place' a' does) (copy_runs p newer r base v stands e)
