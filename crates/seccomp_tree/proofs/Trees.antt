-- For `tree`, `word` and `argument`: rows of tests, the code of steps, put together of the code of fewer and a test, and steps by halves.
use Rattle.seccomp_tree.proofs.Common.{second_stands_out, length-take-le, if◌then◌else◌, number_halves, argument_at, length-drop, nat_tests}
use Rattle.seccomp_tree.proofs.Common.{sock_filter, cases_Bool, pow-succ', take_rest, word_fits, All-drop, AreSteps, IsPushed, IsRecord, At}
use Rattle.seccomp_tree.proofs.Common.{IsTested, cases_lt, found_in, AreOver, AtLeast, Returns, goes_on, word_at, GoesOn, IsPart}
use Rattle.seccomp_tree.proofs.Common.{IsTree, IsTurn, Target, get_or, length, nat_lt, passed, AllIn, Dword, Equal, Grows, Leads, Qword, []}
use Rattle.seccomp_tree.proofs.Common.{arith, false, loads, subst, Give, IsIn, List, Step, Test, drop, load, refl, take, true, zero, All, ℕ}
use Rattle.seccomp_tree.proofs.Common.{inl, inr, row, suc, sym, ◌%◌, ◌*◌, ◌+◌, ◌-◌, ◌/◌, ◌<◌, ◌^◌, ◌∷◌, ◌≡◌, ◌≤◌, ◌⊎◌, ap}
use Rattle.seccomp_tree.proofs.Begun.{first_start, found_first, steps_more, HasMoved, left_all, left_end, left_has, AreLeft, left_on, parts}
use Rattle.seccomp_tree.specs.Code.{IsMiddle}
use Rattle.std.proofs.Math.Pow.{pow_mono}
use Rattle.std.proofs.Common.{max}
use Rattle.seccomp_tree.proofs.Common.{one-le-pow}
use Rattle.seccomp_tree.proofs.{Begun.single, Runs.is_in_grown, Runs.leads_grown, Runs.starts_last, Runs.starts_more, Runs.grows_not}
use Rattle.seccomp_tree.proofs.Runs.{grows_one, runs_last, grows_on, leads_by, last_in}

abbrev pub none : Step
none = record { start = 0; target = Give 0 }

-- where a step that is not the first starts
pub start_fits : (steps : List Step) (n : ℕ) (d : Step) → 1 ≤ n → n < length steps → AreOver (2 ^ 32) steps
    → (get_or steps n d).start < 2 ^ 32
start_fits steps n d some lt over = (parts (2 ^ 32) n steps d some lt over).within

pub rest_of : (code : List sock_filter) (n t : ℕ) (steps : List Step) → 1 ≤ n → n < length steps → length steps ≤ t
    → AreOver (2 ^ 32) steps → All (λ x. IsIn code x.target) steps
    → (length (take (length steps - n) (drop n steps)) < t) × ((1 ≤ length (take (length steps - n) (drop n steps)))
    × (AreOver (2 ^ 32) (take (length steps - n) (drop n steps)) × All (λ x. IsIn code x.target) (take (length steps - n) (drop n steps))))
rest_of code n t steps some lt all_in over inside =
    let long = length-drop n steps in
    let others = (parts (2 ^ 32) n steps none some lt over).behind in
    let are_in = All-drop (λ (x : Step). IsIn code x.target) n steps inside in
    rw (take_rest steps n) (omega (arith, long), (omega (arith, long), (others, are_in)))

-- the number of halvings of a half is one less
pub halvings : (most k : ℕ) → 2 ≤ most → most ≤ 2 ^ k → (j : ℕ) × (k ≡ suc j) × (most - most / 2 ≤ 2 ^ j)
halvings most zero some le = absurd (omega arith)
halvings most (suc k) some le = (k, refl, omega (arith, pow-succ' 2 k))

-- the next power of two is no greater than any other
pub least_power : (n most j k : ℕ) → most ≡ 2 ^ j → most / 2 < max 1 n → n ≤ 2 ^ k → most ≤ 2 ^ k
least_power n most j k is low le = elim (cases_lt k j) [
  | inl lt ↦
      let half : j ≡ suc (j - 1) = omega (arith, lt) in
      absurd (omega (
        arith,
        is,
        low,
        le,
        pow-succ' 2 (j - 1),
        ap (λ i. 2 ^ i) half,
        pow_mono {i = k} {j = j - 1} (omega (arith, lt)),
        one-le-pow k 2 (omega arith),
      ))
  | inr ge ↦ omega (arith, is, pow_mono {i = j} {j = k} ge)
]

-- a row has fewer tests than steps
pub row_few : (steps : List Step) → 1 ≤ length steps → row steps + 1 ≤ length steps
row_few (x ∷ y ∷ z ∷ steps) some = grind (arith, nat_tests, row_few (z ∷ steps) (omega arith), row_few (y ∷ z ∷ steps) (omega arith))
row_few _ some = omega arith

-- a row of few tests takes at most two steps for each halving
pub row_halvings : (steps : List Step) (k : ℕ) → 1 ≤ length steps → row steps ≤ 6 → length steps ≤ 2 ^ k → row steps ≤ 2 * k
row_halvings steps (suc (suc (suc k))) some six le = omega arith
row_halvings steps k some six le = omega (arith, row_few steps some)

-- what there was is led to as before
plain_goes : {most : ℕ} (old new : List sock_filter) (t : Target) (m : ℕ) → Grows old most new → GoesOn old (single t) m t new
plain_goes old new t m g r a w n small h = starts_more (n + m) (omega arith) (leads_grown g h)

-- one step is its target
pub tree_single : (code : List sock_filter) (steps : List Step) (most : ℕ) (d : Step) → length steps ≡ 1
    → All (λ x. IsIn code x.target) steps → IsTree code steps most (get_or steps 0 d).target code
tree_single code (x ∷ []) most d one inside = record {
  grows = grows_not code _;
  inside = inside 0 d (omega arith);
  last = λ two. absurd (omega arith);
  leads = λ k le. plain_goes code code x.target (2 * k) (grows_not code 0);
  soon = λ few. plain_goes code code x.target 0 (grows_not code 0);
}
tree_single code _ most d one inside = absurd (omega arith)

-- a test between what goes on as some steps say, and what does as others
test_goes : {old both new : List sock_filter} {test : Test} {k : ℕ} {u v t : Target} (steps high low : List Step) (m : ℕ)
    → ((a : ℕ) → a < 2 ^ 32 → found_in steps a ≡ (if passed test k a then found_in high a else found_in low a))
    → GoesOn old high m u both → GoesOn old low m v both → IsTested both test k u v t new → GoesOn old steps (suc m) t new
test_goes {test = test} {k = k} steps high low m is above below h r a w n small lead =
    starts_more (n + suc m) (omega arith) (starts_last h.last h.some (h.leads r a w (n + m) small (elim (cases_Bool (passed test k a)) [
      | inl met ↦ rw met (above r a w n small (rw (is a small, met) at lead))
      | inr other ↦ rw other (below r a w n small (rw (is a small, other) at lead))
    ])))

-- a test of a row, and the rest of it
row_tree : {old mid new : List sock_filter} {rest : List Step} {test : Test} {k : ℕ} {u v x t : Target} (steps : List Step) (most : ℕ)
    → length steps ≤ most → IsTree old rest most x mid → IsTested mid test k u v t new → row steps ≡ suc (row rest) → row steps ≤ 6
    → 1 ≤ length rest → length rest < length steps → GoesOn old steps (suc (row rest)) t new → IsTree old steps most t new
row_tree {new = new} {t = t} steps most all tree h one six some less run = record {
  grows = grows_on _ tree.grows h.grows (omega arith);
  inside = last_in new t h.last h.some;
  last = λ two. h.last;
  leads = λ j le r a w n small lead.
      starts_more (n + 2 * j) (omega (arith, one, row_halvings steps j (omega arith) six (omega (arith, all, le))))
      (run r a w n small lead);
  soon = λ few. rw one run;
}

-- the two tests that begin a row
pub tree_out : {old mid new : List sock_filter} {x t : Target} (steps : List Step) (most : ℕ) (d : Step) → length steps ≤ most
    → AreOver (2 ^ 32) steps → second_stands_out steps ≡ true → row steps ≤ 6 → IsTree old (drop 2 steps) most x mid
    → IsTested mid Equal ((get_or steps 1 d).start) (get_or steps 1 d).target x t new → IsTree old steps most t new
tree_out {old} {mid} (a ∷ b ∷ c ∷ steps) most d all over out six tree h =
    let one : row (a ∷ b ∷ c ∷ steps) ≡ suc (row (c ∷ steps)) = grind (arith, out) in
    row_tree (a ∷ b ∷ c ∷ steps) most all tree h one six (omega arith) (omega arith)
    (test_goes (a ∷ b ∷ c ∷ steps) (single b.target) (c ∷ steps) (row (c ∷ steps))
    (λ i small. grind (arith, nat_tests, out, over, found_first (2 ^ 32) c steps i over.1.1.1.1))
    (plain_goes old mid b.target (row (c ∷ steps)) tree.grows) (tree.soon (omega (arith, one))) h)
tree_out _ most d all over out six tree h = absurd (cc)

pub tree_first : {old mid new : List sock_filter} {x t : Target} (steps : List Step) (most : ℕ) (d : Step) → length steps ≤ most
    → 2 ≤ length steps → AreOver (2 ^ 32) steps → second_stands_out steps ≡ false → row steps ≤ 6 → IsTree old (drop 1 steps) most x mid
    → IsTested mid AtLeast ((get_or steps 1 d).start) x (get_or steps 0 d).target t new → IsTree old steps most t new
tree_first {old} {mid} (a ∷ b ∷ steps) most d all some over out six tree h =
    let one : row (a ∷ b ∷ steps) ≡ suc (row (b ∷ steps)) = grind (arith, out) in
    row_tree (a ∷ b ∷ steps) most all tree h one six (omega arith) (omega arith)
    (test_goes (a ∷ b ∷ steps) (b ∷ steps) (single a.target) (row (b ∷ steps)) (λ i small. refl)
    (tree.soon (omega (arith, one))) (plain_goes old mid a.target (row (b ∷ steps)) tree.grows) h)
tree_first _ most d all some over out six tree h = absurd (omega arith)

-- a test in front of two halves
pub tree_halves : {old mid both new : List sock_filter} {u v t : Target} (steps : List Step) (most n : ℕ) (d : Step)
    → IsMiddle (length steps) most n → length steps ≤ most → AreOver (2 ^ 32) steps → 2 ≤ length steps → 6 < row steps
    → IsTree old (drop n steps) (most - most / 2) u mid → IsTree mid (take n steps) (most - most / 2) v both
    → IsTested both AtLeast ((get_or steps n d).start) u v t new → IsTree old steps most t new
tree_halves {new = new} {t = t} steps most n d half all over some long upper lower h =
    let high = length-drop n steps in
    let low = length-take-le n steps (omega (arith, half.within)) in record {
      grows = grows_on _ (grows_on (3 * (length steps - 2)) upper.grows lower.grows
          (omega (arith, high, low, half.some, half.within))) h.grows
          (omega arith);
      inside = last_in new t h.last h.some;
      last = λ two. h.last;
      leads = λ k le r a w m small lead.
          let j = halvings most k (omega (arith, all, some)) le in
          starts_more (m + 2 * k) (omega (arith, j.1)) (test_goes steps (drop n steps) (take n steps) (suc (2 * j.0))
          (λ a fits. (parts (2 ^ 32) n steps d half.some half.within over).found a)
          (λ r a w m small own. starts_more (m + suc (2 * j.0)) (omega arith)
          (leads_grown lower.grows (leads_by (upper.leads j.0 j.2 r a w m small own))))
          (λ r a w m small own. starts_more (m + suc (2 * j.0)) (omega arith)
          (lower.leads j.0 j.2 r a w m small (leads_grown upper.grows own))) h r a w m small lead);
      soon = λ few. absurd (omega arith);
    }

-- one step needs no load
pub word_one : {old new : List sock_filter} {t : Target} (steps : List Step) (most byte : ℕ) → length steps ≡ 1
    → ((k : ℕ) → length steps ≤ 2 ^ k → most ≤ 2 ^ k) → IsTree old steps most t new → IsPart old Dword (λ r. word_at r byte) steps t new
word_one {new = new} (x ∷ []) most byte one least h = record {
  grows = grows_on _ h.grows (grows_not new 0) (omega arith);
  inside = h.inside;
  leads = λ r is w n k le always a small.
      starts_more (n + (1 + 2 * k)) (omega arith) (h.leads k (least k le) r a w n small (always a small));
}
word_one _ most byte one least h = absurd (omega arith)

-- a run that loads a word of the record
pub load_run : (r : List ℕ) (code : List sock_filter) (byte a w n : ℕ) → IsRecord r → byte ≤ 60 → Returns r code (word_at r byte) w n
    → Returns r (load byte ∷ code) a w (suc n)
load_run r code byte a w n is inside h = goes_on (load byte) code a (word_at r byte) w n 0
    (λ p. loads refl (omega (arith, is.long)) (omega arith) refl) (word_fits r byte is) h

pub word_more : {old mid new : List sock_filter} {steps : List Step} {u t : Target} (most byte : ℕ) → byte ≤ 60 → 2 ≤ length steps
    → ((k : ℕ) → length steps ≤ 2 ^ k → most ≤ 2 ^ k) → IsTree old steps most u mid → new ≡ load byte ∷ mid
    → t ≡ At (length new - 1) → IsPart old Dword (λ r. word_at r byte) steps t new
word_more {mid = mid} {new = new} {steps = steps} {t = t} most byte inside some least h written last = record {
  grows = rw written (grows_on (3 * length steps - 2) h.grows (grows_one mid (load byte)) (omega arith));
  inside = last_in new t last (omega (arith, ap length written));
  leads = λ r is w n k le always a small.
      let v = word_at r byte in
      let fits = word_fits r byte is in
      let x = rw (h.last some) at h.inside in
      let begins = h.leads k (least k le) r v w n fits (always v fits) in
      starts_more (n + (1 + 2 * k)) (omega arith) (starts_last last (omega (arith, ap length written))
      (subst (λ l. Returns r l a w (suc (n + 2 * k))) (sym written)
      (load_run r mid byte a w (n + 2 * k) is inside (runs_last (h.last some) (omega (arith, x)) begins))));
}

-- ---- arguments of 64 bits: steps by their high and their low halves

pub low_word : (r : List ℕ) (index : ℕ) → IsRecord r → argument_at r index % 2 ^ 32 ≡ word_at r (16 + 8 * index)
low_word r index rec = omega (arith, number_halves r (16 + 8 * index), word_fits r (16 + 8 * index) rec)

pub high_word : (r : List ℕ) (index : ℕ) → IsRecord r → argument_at r index / 2 ^ 32 ≡ word_at r (20 + 8 * index)
high_word r index rec = grind (arith, number_halves r (16 + 8 * index), word_fits r (16 + 8 * index) rec)

-- How many further high halves a number may begin for which no step that is left starts.
abbrev pub due : ℕ → List Step → ℕ
due number rest =
    if nat_lt 0 (number % 2 ^ 32) then 2 else if nat_lt (number / 2 ^ 32) (first_start (2 ^ 64) (drop 1 rest) / 2 ^ 32) then 1 else 0

due_few : (number : ℕ) (rest : List Step) → due number rest ≤ 2
due_few number rest = grind (arith, nat_tests)

-- The high half that is looked at behind that of a number: that of the end, if the number is the first of its own, else the next one.
abbrev pub IsPast : ℕ → ℕ → ℕ → Type 0
IsPast number end past = ((number % 2 ^ 32 ≡ 0) × (past ≡ end / 2 ^ 32)) ⊎ ((0 < number % 2 ^ 32) × (past ≡ number / 2 ^ 32 + 1))

next_is : (number end next past : ℕ) → IsTurn number (past * 2 ^ 32) end next → IsPast number end past → number / 2 ^ 32 < end / 2 ^ 32
    → next ≡ past * 2 ^ 32
next_is number end next past t which high = grind (arith, which, t.before, t.stops, t.within, t.above)

-- a high half that is done is one of them, or a step fewer is left
due_less : (number end next past : ℕ) (rest back : List Step) → IsTurn number (past * 2 ^ 32) end next → IsPast number end past
    → number / 2 ^ 32 < end / 2 ^ 32 → end ≡ first_start (2 ^ 64) (drop 1 rest) → HasMoved next end rest back
    → 1 + 2 * length (drop 1 back) + due next back ≤ 2 * length (drop 1 rest) + due number rest
due_less number end next past rest back t p high ends moved =
    grind (arith, nat_tests, next_is number end next past t p high, ends, moved, p, t.within)

some_left : (size : ℕ) (rest : List Step) → first_start size rest < size → 1 ≤ length rest
some_left size rest lt = grind (arith, lt)

-- ---- the loop of `argument`

-- Steps over the high halves below that of a number, whose targets go on as the steps say for an argument; and over those low halves
-- of this one that are below the number.
pub record Halving (old : List sock_filter) (index : ℕ) (steps : List Step) (number : ℕ) (rest lows highs : List Step)
    (code : List sock_filter) : Type 0 where
  pub left : AreLeft (2 ^ 64) steps number rest
  pub are_lows : AreSteps (number % 2 ^ 32) lows
  pub own : (a : ℕ) → a < number % 2 ^ 32 → found_in steps (number / 2 ^ 32 * 2 ^ 32 + a) ≡ found_in lows a
  pub low_few : length lows + length rest ≤ length steps
  pub are_highs : AreSteps (number / 2 ^ 32) highs
  pub few : length highs + 2 * length (drop 1 rest) + due number rest < 2 * length steps
  pub before : ℕ
  pub grows : Grows old before code
  pub room : before + 3 * length lows + 5 * length (drop 1 rest) + due number rest + 4 ≤ 5 * length steps
  pub leads : (h : ℕ) → h < number / 2 ^ 32 → IsIn code (found_in highs h)
      × ((r : List ℕ) → IsRecord r → (w n k : ℕ) → length steps ≤ 2 ^ k
      → Leads 0 old r (found_in steps (h * 2 ^ 32 + word_at r (16 + 8 * index))) w n
      → Leads 0 code r (found_in highs h) w (n + 2 + 2 * k))

module _ {old code : List sock_filter} {index number end : ℕ} {steps lows pushed highs : List Step} (rest : List Step) (d : Step)
    (h : Halving old index steps number rest lows highs code) (some : number < 2 ^ 64) (ends : end ≡ first_start (2 ^ 64) (drop 1 rest))
    (p : IsPushed lows (number % 2 ^ 32) (get_or rest 0 d).target pushed) where
  up : (number < end) × ((end ≤ 2 ^ 64) × (1 ≤ length rest))
  up = rw ends (left_end rest h.left some)

  -- what is pushed is so for the rest of the high half, and if that begins with it for others
  held : (high a : ℕ) → number / 2 ^ 32 ≤ high → (high ≡ number / 2 ^ 32) ⊎ (number % 2 ^ 32 ≡ 0) → a < 2 ^ 32
      → high * 2 ^ 32 + a < end → found_in steps (high * 2 ^ 32 + a) ≡ found_in pushed a
  held high a le begins fits lt = grind (arith, begins, ends, h.own a, p.below a, p.from a, left_has rest d (high * 2 ^ 32 + a) h.left some)

  pub lows_in : AllIn old (2 ^ 64) steps → AreSteps (2 ^ 32) pushed × AllIn code (2 ^ 32) pushed
  lows_in inside = (
    steps_more (number % 2 ^ 32 + 1) (2 ^ 32) pushed (omega arith) (omega arith) p.are,
    λ a lt. grind (arith, p.from a, p.from (number % 2 ^ 32), here a, here (number % 2 ^ 32)),
  )
    where
      here : (a : ℕ) → a ≤ number % 2 ^ 32 → IsIn code (found_in pushed a)
      here a le = rw (held (number / 2 ^ 32) a (omega arith) (inl refl) (omega arith) (omega (arith, up.0))) at
          (is_in_grown (found_in steps (number / 2 ^ 32 * 2 ^ 32 + a)) h.grows (inside _ (omega (arith, some))))

  pub halving_on : (next past : ℕ) (back : List Step) → IsTurn number (past * 2 ^ 32) end next → IsPast number end past
      → HasMoved next end rest back → number / 2 ^ 32 ≡ end / 2 ^ 32 → Halving old index steps next back pushed highs code
  halving_on next past back t which (inr (not, is)) same = absurd (grind (arith, t.stops, t.within, t.above, which, not))
  halving_on next past back t which (inl (at, is)) same =
      let high : next / 2 ^ 32 ≡ number / 2 ^ 32 = omega (arith, at, same) in
      let more = some_left (2 ^ 64) (drop 1 rest) (omega (arith, ends, same, some)) in
      let long = length-drop 1 rest in
      let fewer = length-drop 1 (drop 1 rest) in
      let two = due_few next (drop 1 rest) in
      rw is record {
        left = left_on next end rest (drop 1 rest) h.left some ends t.above t.within (inl (at, refl));
        are_lows = steps_more (number % 2 ^ 32 + 1) (next % 2 ^ 32) pushed (omega arith) (omega (arith, high, t.above)) p.are;
        own = λ a lt. rw high (held (number / 2 ^ 32) a (omega arith) (inl refl) (omega (arith, lt)) (omega (arith, lt, at, high)));
        low_few = omega (arith, p.few, h.low_few, long, more);
        are_highs = rw high h.are_highs;
        few = omega (arith, h.few, two, more, fewer);
        before = h.before;
        grows = h.grows;
        room = omega (arith, h.room, two, more, fewer, p.few);
        leads = λ g lt. h.leads g (omega (arith, high));
      }

  pub halving_done : (next past : ℕ) (back more : List Step) (target : Target) (new : List sock_filter)
      → IsTurn number (past * 2 ^ 32) end next → IsPast number end past → HasMoved next end rest back → number / 2 ^ 32 < end / 2 ^ 32
      → IsPart code Dword (λ r. word_at r (16 + 8 * index)) pushed target new → IsPushed highs (number / 2 ^ 32) target more
      → Halving old index steps next back [] more new
  halving_done next past back more target new t which moved high half q = record {
    left = left_on next end rest back h.left some ends t.above t.within moved;
    are_lows = omega (arith, past_is);
    own = λ a lt. absurd (omega (arith, past_is));
    low_few = grind (arith, length-drop 1 rest, h.low_few, moved);
    are_highs = steps_more (number / 2 ^ 32 + 1) (next / 2 ^ 32) more (omega arith) (omega (arith, t.above, past_is)) q.are;
    few = omega (arith, due_less number end next past rest back t which high ends moved, h.few, q.few);
    before = h.before + (3 * length pushed - 2);
    grows = grows_on _ h.grows half.grows (omega arith);
    room = omega (arith, due_less number end next past rest back t which high ends moved, h.room, p.few, due_few number rest);
    leads = λ g lt. elim (cases_lt g (number / 2 ^ 32)) [
      | inl less ↦ rw (q.below g less) (
        is_in_grown (found_in highs g) half.grows (h.leads g less).0,
        λ r rec w n k few lead a small. leads_grown half.grows ((h.leads g less).1 r rec w n k few lead a small),
      )
      | inr le ↦ rw (q.from g le) (
        half.inside,
        λ r rec w n k few lead a small.
            let low = word_at r (16 + 8 * index) in
            let fits = word_fits r (16 + 8 * index) rec in
            let at = held g low le (grind (arith, which, past_is, lt)) fits (omega (arith, t.within, past_is, lt)) in
            starts_more (n + 2 + 2 * k) (omega arith) (leads_by (half.leads r rec w n k (omega (arith, few, h.low_few, p.few, up.1.1))
            (λ b fits'. leads_grown h.grows (rw at at (lead b fits'))) a small)),
      )
    ];
  }
    where
      past_is : next ≡ past * 2 ^ 32
      past_is = next_is number end next past t which high

module _ {old code : List sock_filter} {index number : ℕ} {steps rest lows highs : List Step}
    (h : Halving old index steps number rest lows highs code) (all : 2 ^ 64 ≤ number) where
  end : number / 2 ^ 32 ≡ 2 ^ 32
  end = omega (arith, left_all rest h.left all)

  pub are_all : AreSteps (2 ^ 32) highs
  are_all = rw end at h.are_highs

  -- both halves
  pub is_argument : (t : Target) (new : List sock_filter) → IsPart code Dword (λ r. word_at r (20 + 8 * index)) highs t new
      → IsPart old Qword (λ r. argument_at r index) steps t new
  is_argument t new word = record {
    grows = grows_on _ h.grows word.grows (omega (arith, h.room, h.few));
    inside = word.inside;
    leads = λ r rec w n k few lead.
        let top = word_at r (20 + 8 * index) in
        let number : argument_at r index ≡ top * 2 ^ 32 + word_at r (16 + 8 * index) =
        omega (arith, high_word r index rec, low_word r index rec) in
        let both = (h.leads top (omega (arith, end, word_fits r (20 + 8 * index) rec))).1 r rec w n k few
        (subst (λ u. Leads 0 old r (found_in steps u) w n) number lead) in
        λ a small. starts_more (n + (5 + 4 * k)) (omega arith)
        (word.leads r rec w (n + 2 + 2 * k) (suc k) (omega (arith, h.few, pow-succ' 2 k)) both a small);
  }
