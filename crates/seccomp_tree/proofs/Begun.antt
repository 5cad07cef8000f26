-- Steps: what they have for a number, what is left of them there, one step more, and comparisons laid over them.
use Rattle.seccomp_tree.proofs.Common.{SeccompCmpArgLen, if◌then◌else◌, length-append, length-drop, sock_filter, Condition, nat_tests, All}
use Rattle.seccomp_tree.proofs.Common.{take_rest, AreLaid, AreSteps, IsPushed, cases_lt, compares, found_in, is_plain}
use Rattle.seccomp_tree.proofs.Common.{AreOver, part_of, All-nil, []}
use Rattle.seccomp_tree.proofs.Common.{IsTurn, Target, get_or, length, nat_eq, nat_le, nat_lt, AllIn, arith, Bool, IsIn, List, Step, drop}
use Rattle.seccomp_tree.proofs.Common.{refl, take, true, zero, ◌++◌, inl, inr, suc, ◌+◌, ◌-◌, ◌<◌, ◌^◌, ◌∙◌, ◌∷◌, ◌≡◌, ◌≢◌, ◌≤◌, ◌⊎◌, ℕ}
use Rattle.seccomp_tree.specs.Code.{AreFilled, filled_by, numbers_of}
use mir.Val.{bool_byte}

-- One target for all numbers.
abbrev pub single : Target → List Step
single target = record { start = 0; target = target } ∷ []

pub over_more : (m n : ℕ) (steps : List Step) → m ≤ n → AreOver m steps → AreOver n steps
over_more m n (x ∷ y ∷ steps) le h = (h.0, (h.1.0, over_more m n (y ∷ steps) le h.1.1))
over_more m n (x ∷ []) le h = omega arith
over_more m n [] le h = h

pub over_below : (m : ℕ) (x : Step) (steps : List Step) → AreOver m (x ∷ steps) → x.start < m
over_below m x [] h = h
over_below m x (y ∷ steps) h = omega (arith, h.0, over_below m y steps h.1.1)

pub not_none : (m : ℕ) (steps : List Step) → AreSteps m steps → 0 < m → 1 ≤ length steps
not_none m [] h some = absurd (omega arith)
not_none m (x ∷ steps) h some = omega arith

-- steps below a number are below a greater one
pub steps_more : (m n : ℕ) (steps : List Step) → 0 < m → m ≤ n → AreSteps m steps → AreSteps n steps
steps_more m n [] some le h = absurd (omega arith)
steps_more m n (x ∷ steps) some le h = (h.0, over_more m n (x ∷ steps) le h.1)

-- numbers up to the first start have the first target
pub found_first : (m : ℕ) (x : Step) (steps : List Step) (a : ℕ) → AreOver m (x ∷ steps) → a ≤ x.start → found_in (x ∷ steps) a ≡ x.target
found_first m x [] a h le = refl
found_first m x (y ∷ steps) a h le = grind (arith, nat_tests, h.0)

-- from all starts on there is the last target
found_last : (m a : ℕ) (x : Step) (steps : List Step) (d : Step) → AreOver m (x ∷ steps) → m ≤ a
    → found_in (x ∷ steps) a ≡ (get_or (x ∷ steps) (length steps) d).target
found_last m a x [] d h le = refl
found_last m a x (y ∷ steps) d h le = grind (arith, nat_tests, over_below m y steps h.1.1, found_last m a y steps d h.1.1 le)

-- Steps in two parts: numbers from where the second starts have what that has, and others what the first has.
pub record AreParts (m border : ℕ) (steps front back : List Step) : Type 0 where
  pub before : AreOver border front
  pub behind : AreOver m back
  pub within : border < m
  pub found : (a : ℕ) → found_in steps a ≡ (if nat_le border a then found_in back a else found_in front a)

pub parts : (m n : ℕ) (steps : List Step) (d : Step) → 1 ≤ n → n < length steps → AreOver m steps
    → AreParts m (get_or steps n d).start steps (take n steps) (drop n steps)
parts m (suc zero) (x ∷ y ∷ steps) d some lt h =
    record { before = h.0; behind = h.1.1; within = over_below m y steps h.1.1; found = λ a. refl }
parts m (suc (suc n)) (x ∷ y ∷ steps) d some lt h =
    let rest = parts m (suc n) (y ∷ steps) d (omega arith) (omega arith) h.1.1 in record {
      before = (h.0, (h.1.0, rest.before));
      behind = rest.behind;
      within = rest.within;
      found = λ a. grind (arith, nat_tests, rest.found a, over_below _ y (take n steps) rest.before);
    }
parts m n _ d some lt h = absurd (omega arith)

-- targets for all numbers below the size are all targets
in_below : (code : List sock_filter) (m : ℕ) (x : Step) (steps : List Step) → AreOver m (x ∷ steps)
    → ((a : ℕ) → x.start ≤ a → a < m → IsIn code (found_in (x ∷ steps) a)) → All (λ y. IsIn code y.target) (x ∷ steps)
in_below code m x steps up h zero d lt =
    rw (found_first m x steps x.start up (omega arith)) at (h x.start (omega arith) (over_below m x steps up))
in_below code m x [] up h (suc k) d lt = absurd (omega arith)
in_below code m x (y ∷ steps) up h (suc k) d lt = in_below code m y steps up.1.1
    (λ a le lt'. grind (arith, nat_tests, up.0, h a, lt')) k d (omega arith)

pub are_in_below : (code : List sock_filter) (m : ℕ) (steps : List Step) → AreSteps m steps → AllIn code m steps
    → All (λ y. IsIn code y.target) steps
are_in_below code m [] are h = All-nil (λ (y : Step). IsIn code y.target)
are_in_below code m (x ∷ steps) are h = in_below code m x steps are.1 (λ a le lt. h a lt)

-- ---- what is left of steps from a number on

-- Where the first of the steps starts, or the size.
abbrev pub first_start : ℕ → List Step → ℕ
first_start size [] = size
first_start size (x ∷ steps) = x.start

-- Steps that begin with what a number has, and none at the size.
abbrev pub IsFrom : ℕ → ℕ → List Step → Type 0
IsFrom size number (x ∷ after) = (number < first_start size after) × AreOver size (x ∷ after)
IsFrom size number [] = number ≡ size

pub record AreLeft (size : ℕ) (steps : List Step) (number : ℕ) (rest : List Step) : Type 0 where
  pub from : IsFrom size number rest
  pub same : (a : ℕ) → number ≤ a → a < size → found_in steps a ≡ found_in rest a

-- where a step ends
step_ends : (size : ℕ) (x : Step) (after : List Step) → AreOver size (x ∷ after)
    → (x.start < first_start size after) × (first_start size after ≤ size)
step_ends size x [] h = (h, omega arith)
step_ends size x (y ∷ after) h = (h.0, omega (arith, over_below size y after h.1.1))

pub left_end : {size number : ℕ} {steps : List Step} (rest : List Step) → AreLeft size steps number rest → number < size
    → (number < first_start size (drop 1 rest)) × ((first_start size (drop 1 rest) ≤ size) × (1 ≤ length rest))
left_end [] h some = absurd (omega (arith, h.from))
left_end {size} (x ∷ after) h some = (h.from.0, ((step_ends size x after h.from.1).1, omega arith))

-- numbers up to there have what the first of them has
pub left_has : {size number : ℕ} {steps : List Step} (rest : List Step) (d : Step) (a : ℕ) → AreLeft size steps number rest → number < size
    → number ≤ a → a < first_start size (drop 1 rest) → found_in steps a ≡ (get_or rest 0 d).target
left_has rest d a h some le lt = grind (arith, nat_tests, h.from, h.same a le, left_end rest h some, lt)

pub left_all : {size number : ℕ} {steps : List Step} (rest : List Step) → AreLeft size steps number rest → size ≤ number → number ≡ size
left_all [] h all = h.from
left_all {size} (x ∷ after) h all = absurd (omega (arith, h.from.0, step_ends size x after h.from.1))

-- at first all are left
left_whole : (size : ℕ) (steps : List Step) → 0 < size → AreSteps size steps → AreLeft size steps 0 steps
left_whole size [] some are = absurd (omega (arith, are))
left_whole size (x ∷ steps) some are =
    record { from = (omega (arith, are.0, step_ends size x steps are.1), are.1); same = λ a le lt. refl }

-- What is left at the next number: the others, if the first ends there.
abbrev pub HasMoved : ℕ → ℕ → List Step → List Step → Type 0
HasMoved next end rest back = ((next ≡ end) × (back ≡ drop 1 rest)) ⊎ ((next ≢ end) × (back ≡ rest))

-- a test as a number
pub byte_is : (b : Bool) → bool_byte b ≡ (if b then 1 else 0)
byte_is b = grind arith

pub moves : (k next end : ℕ) (rest : List Step) → k ≡ (if nat_eq next end then 1 else 0)
    → HasMoved next end rest (take (length rest - k) (drop k rest))
moves k next end rest is = rw (take_rest rest k) (grind (arith, nat_tests, is))

pub left_on : {size number : ℕ} {steps : List Step} (next end : ℕ) (rest back : List Step) → AreLeft size steps number rest → number < size
    → end ≡ first_start size (drop 1 rest) → number < next → next ≤ end → HasMoved next end rest back → AreLeft size steps next back
left_on next end [] back h some ends up le moved = absurd (omega (arith, h.from))
left_on next end (x ∷ []) back h some ends up le (inl (at, is)) = rw is record { from = at ∙ ends; same = λ a le' lt. absurd (omega arith) }
left_on {size} next end (x ∷ y ∷ after) back h some ends up le (inl (at, is)) = rw is record {
  from = (omega (arith, at, step_ends size y after h.from.1.1.1), h.from.1.1.1);
  same = λ a le' lt. h.same a (omega arith) lt ∙ grind (arith, nat_tests, at, le');
}
left_on next end (x ∷ after) back h some ends up le (inr (not, is)) =
    rw is record { from = (omega arith, h.from.1); same = λ a le' lt. h.same a (omega arith) lt }

-- one step more
over_push : (y : Step) (old : List Step) (x d : Step) → AreOver x.start (y ∷ old)
    → ((get_or (y ∷ old) (length old) d).target ≢ x.target) → AreOver (x.start + 1) (y ∷ (old ++ x ∷ []))
over_push y [] x d h not = (h, (not, omega arith))
over_push y (z ∷ old) x d h not = (h.0, (h.1.0, over_push z old x d h.1.1 not))

found_push : (y : Step) (old : List Step) (x : Step) (a : ℕ) → AreOver x.start (y ∷ old)
    → found_in (y ∷ (old ++ x ∷ [])) a ≡ (if nat_le x.start a then x.target else found_in (y ∷ old) a)
found_push y [] x a h = refl
found_push y (z ∷ old) x a h = grind (arith, nat_tests, found_push z old x a h.1.1, over_below x.start z old h.1.1)

pub pushed_more : (old : List Step) (x : Step) → AreSteps x.start old
    → ((n : ℕ) → suc n ≡ length old → (d : Step) × ((get_or old n d).target ≢ x.target)) → IsPushed old x.start x.target (old ++ x ∷ [])
pushed_more [] x h not = record { are = (h, omega arith); from = λ a le. refl; below = λ a lt. absurd (omega arith); few = omega arith }
pushed_more (y ∷ old) x h not = record {
  are = (h.0, let last = not (length old) refl in over_push y old x last.0 h.1 last.1);
  from = λ a le. grind (arith, nat_tests, found_push y old x a h.1);
  below = λ a lt. grind (arith, nat_tests, found_push y old x a h.1);
  few = omega (arith, length-append old (x ∷ []));
}

-- steps that end in the target need no step more
pub pushed_same : (old : List Step) (start n : ℕ) (target : Target) (d : Step) → AreSteps start old → suc n ≡ length old
    → (get_or old n d).target ≡ target → IsPushed old start target old
pushed_same [] start n target d h last same = absurd (omega arith)
pushed_same (x ∷ old) start n target d h last same = record {
  are = (h.0, over_more start (start + 1) (x ∷ old) (omega arith) h.1);
  from = λ a le. let at : length old ≡ n = omega arith in found_last start a x old d h.1 le ∙ rw at same;
  below = λ a lt. refl;
  few = omega arith;
}

pub numbers_many : (l : SeccompCmpArgLen) → 2 ^ 32 ≤ numbers_of l
numbers_many l = grind arith

-- ---- the loop of `laid`

-- How many further parts of numbers that compare alike there are.
abbrev pub parts_left : ℕ → ℕ → ℕ → ℕ
parts_left size value number =
    if nat_lt number value then 3 else if nat_eq number value then 2 else if nat_lt number size then 1 else 0

pub record Laying (c : Condition) (target other : Target) (number : ℕ) (steps : List Step) : Type 0 where
  pub fits : part_of c.arg_len c.value < numbers_of c.arg_len
  pub within : number ≤ numbers_of c.arg_len
  pub are : AreSteps number steps
  pub each : (a : ℕ) → a < number
      → found_in steps a ≡ (if compares c.operator a (part_of c.arg_len c.value) then target else other)
  pub few : length steps + parts_left (numbers_of c.arg_len) (part_of c.arg_len c.value) number ≤ 3

pub laying_none : (c : Condition) (target other : Target) → part_of c.arg_len c.value < numbers_of c.arg_len → Laying c target other 0 []
laying_none c target other fits = record {
  fits = fits;
  within = omega arith;
  are = refl;
  each = λ a lt. absurd (omega arith);
  few = grind (arith, nat_tests, fits);
}

-- a step more: numbers that compare alike
pub laying_on : {c : Condition} {target other t : Target} {steps more : List Step} {number next : ℕ} → is_plain c.operator ≡ true
    → Laying c target other number steps → number < numbers_of c.arg_len
    → IsTurn number (part_of c.arg_len c.value + (if nat_le (part_of c.arg_len c.value) number then 1 else 0)) (numbers_of c.arg_len) next
    → t ≡ (if compares c.operator number (part_of c.arg_len c.value) then target else other) → IsPushed steps number t more
    → Laying c target other next more
laying_on {c} {number = number} {next} plain h some turn is pushed = record {
  fits = h.fits;
  within = turn.within;
  are = steps_more (number + 1) next _ (omega arith) (omega (arith, turn.above)) pushed.are;
  each = λ a lt. elim (cases_lt a number) [
    | inl below ↦ rw (pushed.below a below) (h.each a below)
    | inr le ↦
        let v = part_of c.arg_len c.value in
        let same : compares c.operator a v ≡ compares c.operator number v = grind (arith, nat_tests, plain, turn.before, le, lt) in
        rw (pushed.from a le, same) is
  ];
  few = grind (arith, nat_tests, h.fits, h.few, pushed.few, turn.above, turn.stops, turn.within);
}

pub laid_all : {c : Condition} {target other : Target} {number : ℕ} {steps : List Step} → Laying c target other number steps
    → numbers_of c.arg_len ≤ number → is_plain c.operator ≡ true → AreLaid c target other steps
laid_all {c} {number = number} h all plain =
    let end : number ≡ numbers_of c.arg_len = omega (arith, h.within, all) in
    record { are = rw end at h.are; each = λ a lt. h.each a (omega (arith, all)); few = omega (arith, h.few); plain = plain }

-- ---- the loop of `filled`

pub record Filling (size : ℕ) (front back : List Step) (number : ℕ) (front_rest back_rest steps : List Step) : Type 0 where
  pub front_left : AreLeft size front number front_rest
  pub back_left : AreLeft size back number back_rest
  pub are : AreSteps number steps
  pub each : (a : ℕ) → a < number → found_in steps a ≡ filled_by (found_in front a) (found_in back a)
  pub few : length steps + length front_rest + length back_rest ≤ length front + length back
  pub last : size ≤ number → length steps + 1 ≤ length front + length back

pub filling_none : (size : ℕ) (front back : List Step) → 0 < size → AreSteps size front → AreSteps size back
    → Filling size front back 0 front back []
filling_none size front back some are back_are = record {
  front_left = left_whole size front some are;
  back_left = left_whole size back some back_are;
  are = refl;
  each = λ a lt. absurd (omega arith);
  few = omega arith;
  last = λ all. absurd (omega arith);
}

pub filling_up : {size number : ℕ} {front back front_rest back_rest steps : List Step} (next first_end back_end : ℕ)
    → Filling size front back number front_rest back_rest steps → number < size → first_end ≡ first_start size (drop 1 front_rest)
    → back_end ≡ first_start size (drop 1 back_rest) → (next < first_end → next ≡ back_end) → number < next
filling_up {front_rest = front_rest} {back_rest} next first_end back_end h some ends last_ends which =
    let f = left_end front_rest h.front_left some in
    let b = left_end back_rest h.back_left some in
    grind (arith, which, f.0, b.0, ends, last_ends)

-- a step more: numbers that have one target in front, and one behind
pub filling_on : {size number next : ℕ} {front back front_rest back_rest steps more : List Step} (front_back back_back : List Step)
    (d e : Step) → Filling size front back number front_rest back_rest steps → number < size
    → (first_end back_end : ℕ) → first_end ≡ first_start size (drop 1 front_rest) → back_end ≡ first_start size (drop 1 back_rest)
    → (next ≤ first_end) × (next ≤ back_end) × (next < first_end → next ≡ back_end)
    → IsPushed steps number (filled_by (get_or front_rest 0 d).target (get_or back_rest 0 e).target) more
    → HasMoved next first_end front_rest front_back → HasMoved next back_end back_rest back_back
    → Filling size front back next front_back back_back more
filling_on {size} {number} {next} {front} {back} {front_rest} {back_rest} front_back back_back d e h some first_end back_end ends last_ends
    turn pushed moved other =
    let f = left_end front_rest h.front_left some in
    let b = left_end back_rest h.back_left some in
    let up = filling_up next first_end back_end h some ends last_ends turn.2 in record {
      front_left = left_on next first_end front_rest front_back h.front_left some ends up turn.0 moved;
      back_left = left_on next back_end back_rest back_back h.back_left some last_ends up turn.1 other;
      are = steps_more (number + 1) next _ (omega arith) (omega (arith, up)) pushed.are;
      each = λ a lt. elim (cases_lt a number) [
        | inl below ↦ rw (pushed.below a below) (h.each a below)
        | inr le ↦ rw (
          pushed.from a le,
          left_has front_rest d a h.front_left some le (omega (arith, ends, turn.0)),
          left_has back_rest e a h.back_left some le (omega (arith, last_ends, turn.1)),
        ) refl
      ];
      few = grind (arith, h.few, pushed.few, moved, other, turn.2, length-drop 1 front_rest, length-drop 1 back_rest, f.1.1, b.1.1);
      last = λ all. grind (arith, h.few, pushed.few, f.1.1, b.1.1);
    }

pub filled_all : {l : SeccompCmpArgLen} {front back front_rest back_rest steps : List Step} {number : ℕ}
    → Filling (numbers_of l) front back number front_rest back_rest steps → numbers_of l ≤ number → AreFilled l front back steps
filled_all {l} {front_rest = front_rest} {number = number} h all =
    let end : number ≡ numbers_of l = left_all front_rest h.front_left all in
    record { are = rw end at h.are; each = λ a lt. h.each a (omega (arith, all)); few = h.last all }
