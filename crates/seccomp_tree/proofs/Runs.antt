-- Code that grows: what starts at a place stays what it was; runs that begin at a target; and targets that are reached and tested.
use Rattle.seccomp_tree.proofs.Common.{get_or-reverse, length-reverse, if◌then◌else◌, length-append, append_assoc, is_not_equal, cases_Bool}
use Rattle.seccomp_tree.proofs.Common.{is_at_least, sock_filter, IsInRange, IsReached, drop-drop, drop_more, nat_tests, slice_get, IsTested}
use Rattle.seccomp_tree.proofs.Common.{to_return, cases_eq, cases_lt, is_equal, stand_in, to_place, AtLeast, IsSound, Returns, goes_on, inl}
use Rattle.seccomp_tree.proofs.Common.{is_less, reverse, tail_at, IsFine, Starts, Target, get_or, length, passed, Equal, Grows, arith, Does}
use Rattle.seccomp_tree.proofs.Common.{gives, jumps, subst, IsIn, List, Some, Test, drop, give, jump, refl, zero, ◌++◌, inr, suc, sym, ◌+◌}
use Rattle.seccomp_tree.proofs.Common.{◌-◌, ◌<◌, ◌^◌, ◌∙◌, ◌∷◌, ◌≡◌, ◌≤◌, At, [], ap, ℕ}
use Rattle.std.proofs.Math.Seq.{drop-append-add}

-- what starts at a place stays what it was
pub tail_grown : (front old : List sock_filter) (m : ℕ) → m < length old → tail_at (front ++ old) m ≡ tail_at old m
tail_grown front old m inside =
    let at : length (front ++ old) - (m + 1) ≡ length front + (length old - (m + 1)) = omega (arith, length-append front old) in
    ap (λ k. drop k (front ++ old)) at ∙ drop-append-add front old (length old - (m + 1))

-- from the first place on there is all of it
pub tail_whole : (code : List sock_filter) (m : ℕ) → m + 1 ≡ length code → tail_at code m ≡ code
tail_whole code m last = let none : length code - (m + 1) ≡ 0 = omega arith in ap (λ k. drop k code) none

-- where a jump leads that stands at a place of it
pub jump_from : (code : List sock_filter) (place d to : ℕ) (i : sock_filter) (rest : List sock_filter) → place < length code
    → tail_at code place ≡ i ∷ rest → to + 1 + d ≡ place → drop d rest ≡ tail_at code to
jump_from code place d to i rest inside here over =
    let at : length code - (place + 1) + suc d ≡ length code - (to + 1) = omega arith in
    ap (λ l. drop (suc d) l) (sym here) ∙ drop-drop (suc d) (length code - (place + 1)) code ∙ ap (λ k. drop k code) at

-- code that is written from its end has at a place what was written then
pub tail_written : (back : List sock_filter) (place : ℕ) (i : sock_filter) → place < length back → i ≡ get_or back place i
    → (rest : List sock_filter) × (tail_at (reverse back) place ≡ i ∷ rest)
tail_written back place i inside here =
    let long = length-reverse back in
    let k = length (reverse back) - (place + 1) in
    let at : length back - 1 - k ≡ place = omega (arith, long) in
    let item = get_or-reverse back k i (omega (arith, long)) ∙ ap (λ n. get_or back n i) at ∙ sym here in
    (drop (k + 1) (reverse back), drop_more (reverse back) k i (omega (arith, long)) ∙ ap (λ x. x ∷ drop (k + 1) (reverse back)) item)

pub grows_not : (code : List sock_filter) (most : ℕ) → Grows code most code
grows_not code most = record { front = []; whole = refl; few = omega arith }

pub grows_one : (code : List sock_filter) (i : sock_filter) → Grows code 1 (i ∷ code)
grows_one code i = record { front = i ∷ []; whole = refl; few = omega arith }

-- once, and then again
pub grows_on : {a b c : List sock_filter} {m n : ℕ} (most : ℕ) → Grows a m b → Grows b n c → m + n ≤ most → Grows a most c
grows_on {a} most g h few = record {
  front = h.front ++ g.front;
  whole = h.whole ∙ ap (λ l. h.front ++ l) g.whole ∙ sym (append_assoc h.front g.front a);
  few = omega (arith, length-append h.front g.front, g.few, h.few);
}

-- how long the code is then
pub grown_long : {old new : List sock_filter} {most : ℕ} → Grows old most new → (length old ≤ length new) × (length new ≤ length old + most)
grown_long {old} g = let long = ap length g.whole ∙ length-append g.front old in (omega (arith, long), omega (arith, long, g.few))

pub is_in_grown : {old new : List sock_filter} {most : ℕ} (t : Target) → Grows old most new → IsIn old t → IsIn new t
is_in_grown t g h = grind (arith, grown_long g)

-- the place that was written last is inside
pub last_in : (code : List sock_filter) (t : Target) → t ≡ At (length code - 1) → 1 ≤ length code → IsIn code t
last_in code t is some = rw is (omega arith)

-- a run of at most n steps is one of at most m, if that is more
pub returns_more : {r : List ℕ} {code : List sock_filter} {a w n : ℕ} (m : ℕ) → n ≤ m → Returns r code a w n → Returns r code a w m
returns_more (suc m) le (gives i rest a w n c k) = gives i rest a w m c k
returns_more (suc m) le (goes_on i rest a a' w n d does small h) = goes_on i rest a a' w m d does small (returns_more m (omega arith) h)
returns_more zero le (gives i rest a w n c k) = absurd (omega arith)
returns_more zero le _ = absurd (omega arith)

pub starts_more : {reach : ℕ} {code : List sock_filter} {r : List ℕ} {t : Target} {a w n : ℕ} (m : ℕ) → n ≤ m → Starts reach code r t a w n
    → Starts reach code r t a w m
starts_more m le (to_return w a n some) = to_return w a m (omega arith)
starts_more m le (to_place p w a k n inside h few) = to_place p w a k m inside h (omega (arith, few))

-- a jump to a place takes one step more
pub leads_by : {reach : ℕ} {code : List sock_filter} {r : List ℕ} {t : Target} {a w n : ℕ} → Starts reach code r t a w n
    → Starts 0 code r t a w (suc n)
leads_by (to_return w a n some) = to_return w a (suc n) (omega arith)
leads_by (to_place m w a k n inside h few) = to_place m w a k (suc n) inside h (grind (arith, few))

-- what starts at a place returns what it did
pub returns_grown : {r : List ℕ} {a w n most : ℕ} {old new : List sock_filter} (m : ℕ) → Grows old most new → m < length old
    → Returns r (tail_at old m) a w n → Returns r (tail_at new m) a w n
returns_grown {old = old} m g inside h = rw (g.whole, tail_grown g.front old m inside) h

-- so for targets, if what was near is near
pub starts_grown : {d e most : ℕ} {old new : List sock_filter} {r : List ℕ} {t : Target} {a w n : ℕ} → Grows old most new
    → ((m : ℕ) → t ≡ At m → m < length old → length old ≤ m + d → length new ≤ m + e) → Starts d old r t a w n → Starts e new r t a w n
starts_grown g close (to_return w a n some) = to_return w a n some
starts_grown g close (to_place m w a k n inside h few) =
    to_place m w a k n (omega (arith, (grown_long g).0)) (returns_grown m g inside h) (grind (arith, nat_tests, few, close m refl inside))

pub leads_grown : {e most : ℕ} {old new : List sock_filter} {r : List ℕ} {t : Target} {a w n : ℕ} → Grows old most new
    → Starts 0 old r t a w n → Starts e new r t a w n
leads_grown g h = starts_grown g (λ m is inside le. absurd (omega arith)) h

-- what was written last is entered without a jump
pub starts_last : {code : List sock_filter} {r : List ℕ} {t : Target} {a w n : ℕ} → t ≡ At (length code - 1) → 1 ≤ length code
    → Returns r code a w n → Starts 1 code r t a w n
starts_last {code} {r} {t} {a} {w} {n} is some h =
    let at = tail_whole code (length code - 1) (omega arith) in
    rw is (to_place (length code - 1) w a n n (omega arith) (rw at h) (grind (arith, nat_tests)))

-- what a target that is a place does
pub runs_at : {reach : ℕ} {code : List sock_filter} {r : List ℕ} {t : Target} {a w n : ℕ} (m : ℕ) → t ≡ At m → Starts reach code r t a w n
    → Returns r (tail_at code m) a w n
runs_at m is (to_return w a n some) = absurd (cc)
runs_at m is (to_place p w a k n inside h few) = let same : p ≡ m = cc in rw same at (returns_more n (omega (arith, few)) h)

pub runs_last : {code : List sock_filter} {r : List ℕ} {t : Target} {a w n : ℕ} → t ≡ At (length code - 1) → 1 ≤ length code
    → Starts 1 code r t a w n → Returns r code a w n
runs_last {code} is some h = rw (tail_whole code (length code - 1) (omega arith)) at (runs_at (length code - 1) is h)

pub sound_some : (code : List sock_filter) → IsSound code → 1 ≤ length code
sound_some code h = grind (arith, h.ends)

pub sound_push : (code : List sock_filter) (i : sock_filter) → IsSound code → IsFine i 0 (length code + 1) → IsInRange i
    → length code + 1 < 2 ^ 32 → IsSound (i ∷ code)
sound_push code i h fine range room =
    record { fine = each; few = omega arith; ends = tail_grown (i ∷ []) code 0 (sound_some code h) ∙ h.ends }
  where
    each : (place : ℕ) (j : sock_filter) → slice_get (i ∷ code) place ≡ Some j → IsFine j place (length (i ∷ code)) × IsInRange j
    each zero j here = grind (arith, here, fine, range)
    each (suc place) j here = grind (arith, h.fine place j here)

-- a place at which an instruction stands in for a target that is far
pub reached : {code new : List sock_filter} {t : Target} (place : ℕ) (rest : List sock_filter) → Grows code 1 new
    → ((m : ℕ) → t ≡ At m → m + 255 < length code) → place < length new → length new ≤ place + 255
    → tail_at new place ≡ stand_in t place ∷ rest → IsReached code t place new
reached {code} {new} place rest g far inside close here =
    record { grows = g; inside = inside; near = close; leads = λ r a w n small h. goes here far small h }
  where
    goes : {r : List ℕ} {t : Target} {a w n : ℕ} → tail_at new place ≡ stand_in t place ∷ rest
        → ((m : ℕ) → t ≡ At m → m + 255 < length code) → a < 2 ^ 32 → Starts 255 code r t a w n → Returns r (tail_at new place) a w n
    goes here far small (to_return w a n some) = returns_more n some (rw here (gives (give w) rest a w 0 refl refl))
    goes here far small (to_place m w a k n within h few) =
        let over = place - (m + 1) in
        let at = jump_from new place over m (jump over) rest inside here (omega (arith, far m refl, (grown_long g).0)) in
        returns_more {n = suc k} n (grind (arith, nat_tests, few, far m refl)) (rw here
        (goes_on (jump over) rest a a w k over (λ p. jumps refl (omega arith) refl) small (rw at (returns_grown m g within h))))

-- The code of a test.
abbrev pub code_of : Test → ℕ
code_of Equal = 0x15
code_of AtLeast = 0x35

-- a test passes over as many instructions as it chooses
tests : (test : Test) (i : sock_filter) (r : List ℕ) (a p : ℕ) → i.code ≡ code_of test
    → Does i r p a (p + (1 + (if passed test i.k a then i.jt else i.jf))) a
tests Equal i r a p is = elim (cases_eq a i.k) [
  | inl e ↦ is_equal is e (grind (arith, nat_tests)) refl
  | inr e ↦ is_not_equal is e (grind (arith, nat_tests)) refl
]
tests AtLeast i r a p is = elim (cases_lt a i.k) [
  | inl e ↦ is_less is e (grind (arith, nat_tests)) refl
  | inr e ↦ is_at_least is e (grind (arith, nat_tests)) refl
]

-- a test whose targets are reached, the one first
pub tested : {old mid code new : List sock_filter} {met other t : Target} {y n : ℕ} (test : Test) (i : sock_filter)
    → i.code ≡ code_of test → i.jt + y + 1 ≡ length code → i.jf + n + 1 ≡ length code → IsReached old met y mid
    → IsReached mid other n code → new ≡ i ∷ code → t ≡ At (length new - 1) → IsTested old test i.k met other t new
tested {old} {mid} {code} {new} {met} {other} {t} {y} {n} test i is over_yes over_no h k written last = record {
  grows = rw written (grows_on 3 (grows_on 2 h.grows k.grows (omega arith)) (grows_one code i) (omega arith));
  last = last;
  some = omega (arith, ap length written);
  leads = λ r a w m small lead. subst (λ l. Returns r l a w (suc m)) (sym written) (goes r a w m small lead);
}
  where
    goes : (r : List ℕ) (a w m : ℕ) → a < 2 ^ 32 → Starts 1 old r (if passed test i.k a then met else other) a w m
        → Returns r (i ∷ code) a w (suc m)
    goes r a w m small lead = elim (cases_Bool (passed test i.k a)) [
      | inl holds ↦
          let at : i.jt ≡ length code - (y + 1) = omega arith in
          let run = h.leads r a w m small (starts_grown (grows_not old 0) (λ p e inside le. omega arith) (rw holds at lead)) in
          goes_on i code a a w m i.jt (λ p. rw holds at (tests test i r a p is)) small (rw at (returns_grown y k.grows h.inside run))
      | inr fails ↦
          let at : i.jf ≡ length code - (n + 1) = omega arith in
          let long = grown_long h.grows in
          let run = k.leads r a w m small (starts_grown h.grows (λ p e inside le. omega (arith, long.1)) (rw fails at lead)) in
          goes_on i code a a w m i.jf (λ p. rw fails at (tests test i r a p is)) small (rw at run)
    ]
