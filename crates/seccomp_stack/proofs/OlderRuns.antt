-- The older program in front of its copies of the newer one: where it returns, it goes on in the copy for the word.
use Rattle.std.proofs.Common.{◌≡◌, ◌≢◌, ℕ, zero, suc, ◌+◌, ◌*◌, ◌-◌, ◌<◌, List, [], ◌∷◌, length, Some, refl, sym, ap, ◌∙◌, arith}
use Rattle.std.specs.Prelude.{slice_get}
use Rattle.std.specs.Int.Bits.{and_zero_r}
use Rattle.std.specs.List.{flat_map}
use Rattle.std.proofs.lemmas.Bool.Decides.{nat_tests}
use Rattle.std.proofs.lemmas.Option.{same_Some, slice_get_within}
use Rattle.seccompiler.specs.declared.bpf.sock_filter.{sock_filter}
use Rattle.seccompiler.specs.Code.{mask, jump}
use Rattle.seccompiler.specs.Machine as of_seven
use Rattle.seccomp_compare.specs.Machine.{as_of_seven, EndsFrom, Ends, returns, goes_on}
use Rattle.seccomp_stack.specs.Stack.{prevailing}
use Rattle.seccomp_stack.specs.Joined.{place_of, in_front, front, copy, joined, words_in}
use Rattle.seccomp_stack.proofs.Words.{each_has}
use Rattle.seccomp_stack.proofs.Runs.{Stands, stands_front, stands_behind, stands_in, copy_stands, copy_runs, no_return}

-- the front is as long as the program
pub length-front : (words : List ℕ) (size : ℕ) (older : List sock_filter) → length (front words size older) ≡ length older
length-front words size [] = refl
length-front words size (i ∷ older) = ap suc (length-front words size older)

-- where an instruction of the older program stands in the front
pub front_at : (words : List ℕ) (size : ℕ) (older : List sock_filter) (place behind : ℕ) (i : sock_filter) → slice_get older place ≡ Some i
    → behind + suc place ≡ length older → slice_get (front words size older) place ≡ Some (in_front words size behind i)
front_at words size [] place behind i found long = absurd (cc)
front_at words size (j ∷ older) zero behind i found long =
    let same : j ≡ i = same_Some j i found in
    let left : length older ≡ behind = omega arith in
    (λ k. Some (in_front words size (left k) (same k)))
front_at words size (j ∷ older) (suc place) behind i found long = front_at words size older place behind i found (omega arith)

kept : (words : List ℕ) (size behind : ℕ) (i : sock_filter) → i.code ≢ 0x06 → in_front words size behind i ≡ i
kept words size behind i other = grind (arith, nat_tests)

jumped : (words : List ℕ) (size behind : ℕ) (i : sock_filter) → i.code ≡ 0x06
    → in_front words size behind i ≡ jump (behind + place_of words i.k * size)
jumped words size behind i is = grind (arith, nat_tests)

-- a copy clears the accumulator, and runs as the newer program
enters : (p newer : List sock_filter) (r : List ℕ) (base a v m w : ℕ) → Stands p base (copy newer v) → Ends newer r m w
    → EndsFrom p r base a (suc m) (prevailing v w)
enters p newer r base a v m w stands ends =
    let at_start : slice_get p (base + 0) ≡ Some (mask 0) = stands.at 0 (mask 0) refl in
    let z : base + 0 ≡ base = omega arith in
    goes_on (mask 0) (rw z at at_start) (as_of_seven (of_seven.masks refl (omega arith) (sym (and_zero_r a))))
    (copy_runs p newer r base v stands ends)

-- a run of the older program goes on in a copy
older_runs : (p older newer : List sock_filter) (r : List ℕ) (words : List ℕ) (m w : ℕ)
    → Stands p 0 (front words (length newer + 1) older)
    → ((v : ℕ) → place_of words v < length words → Stands p (length older + place_of words v * (length newer + 1)) (copy newer v))
    → ((place : ℕ) (i : sock_filter) → slice_get older place ≡ Some i → i.code ≡ 0x06 → place_of words i.k < length words)
    → Ends newer r m w → {place a n v : ℕ} → EndsFrom older r place a n v → EndsFrom p r place a (n + 1 + m) (prevailing v w)
older_runs p older newer r words m w fronts copies has newer_ends {place} {a} (returns i here code) =
    let size = length newer + 1 in
    let within = slice_get_within older place i here in
    let behind = length older - place - 1 in
    let long : behind + suc place ≡ length older = omega arith in
    let step = jump (behind + place_of words i.k * size) in
    let found : slice_get p (0 + place) ≡ Some step =
    fronts.at place step (front_at words size older place behind i here long ∙ ap Some (jumped words size behind i code)) in
    let z : 0 + place ≡ place = omega arith in
    let there : slice_get p place ≡ Some step = rw z at found in
    let to : length older + place_of words i.k * size ≡ place + 1 + step.k = omega arith in
    let count : suc (suc m) ≡ 1 + 1 + m = omega arith in
    rw (← count) (goes_on step there (as_of_seven (of_seven.jumps refl to refl))
    (enters p newer r (length older + place_of words i.k * size) a i.k m w (copies i.k (has place i here code)) newer_ends))
older_runs p older newer r words m w fronts copies has newer_ends {place} {a} (goes_on {place' = place'} {a' = a'} {n = n} i here does e) =
    let size = length newer + 1 in
    let within = slice_get_within older place i here in
    let behind = length older - place - 1 in
    let long : behind + suc place ≡ length older = omega arith in
    let found : slice_get p (0 + place) ≡ Some i =
    fronts.at place i (front_at words size older place behind i here long
    ∙ ap Some (kept words size behind i (no_return i r place a place' a' does))) in
    let z : 0 + place ≡ place = omega arith in
    let there : slice_get p place ≡ Some i = rw z at found in
    let count : suc (n + 1 + m) ≡ suc n + 1 + m = omega arith in
    rw (← count) (goes_on i there does (older_runs p older newer r words m w fronts copies has newer_ends e))

-- two programs as one return the word that prevails
pub joined_runs : (older newer : List sock_filter) (r : List ℕ) (n m v w : ℕ) → Ends older r n v → Ends newer r m w
    → Ends (joined older newer) r (n + 1 + m) (prevailing v w)
joined_runs older newer r n m v w older_ends newer_ends =
    let words = words_in older in
    let size = length newer + 1 in
    let head = front words size older in
    let copies = flat_map (copy newer) words in
    older_runs (joined older newer) older newer r words m w (stands_front head copies)
    (λ u has. stands_in (joined older newer) copies (copy newer u) (length head) (place_of words u * size)
    (length older + place_of words u * size) (ap (λ x. x + place_of words u * size) (sym (length-front words size older)))
    (stands_behind head copies) (copy_stands newer words u has))
    (λ place i found code. each_has [] older place i found code)
    newer_ends older_ends
