-- What private functions promise each other: of steps that are looked up by a number, of code that is written from its end to its
-- front, conditions, rulings and call numbers.
use Rattle.std.specs.Prelude.{◌≡◌, ℕ, suc, ◌+◌, ◌-◌, ◌*◌, ◌/◌, ◌<◌, ◌≤◌, ◌^◌, List, [], ◌∷◌, ◌++◌, length, drop}
use Rattle.std.specs.Prelude.{nat_eq, nat_le, nat_lt, not, All}
use Rattle.std.specs.Prelude.{if◌then◌else◌, bit_and, slice_get, Some, None, Option, Bool, true, ◌≢◌, false, ◌&&◌, ⊤}
use Rattle.std.specs.List.{list_all}
use Rattle.seccompiler.specs.declared.bpf.sock_filter.{sock_filter}
use Rattle.seccompiler.specs.Machine.{IsRecord, Does, IsFine, IsInRange, argument_at}
use Rattle.seccompiler.specs.Policy.{Condition, operator_part, part_of}
use Rattle.seccompiler.specs.declared.backend.SeccompCmpArgLen.{SeccompCmpArgLen}
use Rattle.seccompiler.specs.declared.backend.SeccompCmpArgLen.TheVariants.{Dword, Qword}
use Rattle.seccompiler.specs.declared.backend.SeccompCmpOp.{SeccompCmpOp}
use Rattle.seccompiler.specs.declared.backend.SeccompCmpOp.TheVariants.{Eq, Ne, Ge, Gt, Le, Lt, MaskedEq}
use Rattle.seccompiler.specs.Code.{give, jump}
use Rattle.seccomp_tree.specs.declared.steps.Target.{Target}
use Rattle.seccomp_tree.specs.declared.steps.Target.TheVariants.{Give, At}
use Rattle.seccomp_tree.specs.declared.steps.Step.{Step}
use Rattle.seccomp_tree.specs.declared.code.Test.{Test}
use Rattle.seccomp_tree.specs.declared.code.Test.TheVariants.{Equal, AtLeast}
use Rattle.seccomp_tree.specs.Decisions.{Ruling, First, Takes, alike, conditions_length, conditions_steps, is_plain, only, part_length}
use Rattle.seccomp_tree.specs.Decisions.{part_steps, rules_length}
use Rattle.seccomp_tree.specs.Decided.{DecisionSet, default_for, rulings_for}
use Rattle.seccomp_tree.specs.TreeProgram.{one_value}

-- The target that steps have for a number: that of the last step that starts at or below it, or of the first if none does.
abbrev pub found_in : List Step → ℕ → Target
found_in (x ∷ y ∷ steps) a = if nat_le y.start a then found_in (y ∷ steps) a else x.target
found_in (x ∷ []) a = x.target
found_in [] a = Give 0

-- Some steps, each of which starts above the one before it, and has another target; all start below a size.
abbrev pub AreOver : ℕ → List Step → Type 0
AreOver size (x ∷ y ∷ steps) = (x.start < y.start) × ((x.target ≢ y.target) × AreOver size (y ∷ steps))
AreOver size (x ∷ []) = x.start < size
AreOver size [] = ⊥

-- Steps over all numbers below a size, none if it is 0.
abbrev pub AreSteps : ℕ → List Step → Type 0
AreSteps size (x ∷ steps) = (x.start ≡ 0) × AreOver size (x ∷ steps)
AreSteps size [] = size ≡ 0

-- From start on the steps have this target, and below what they had.
pub record IsPushed (old : List Step) (start : ℕ) (target : Target) (new : List Step) : Type 0 where
  pub are : AreSteps (start + 1) new
  pub from : (a : ℕ) → start ≤ a → found_in new a ≡ target
  pub below : (a : ℕ) → a < start → found_in new a ≡ found_in old a
  pub few : length new ≤ length old + 1

-- The steps are over the numbers below an end: they have what the old ones had below the next number, and leave the others open.
pub record AreOpenTo (old : List Step) (next end : ℕ) (new : List Step) : Type 0 where
  pub are : AreSteps end new
  pub below : (a : ℕ) → a < next → found_in new a ≡ found_in old a
  pub gap : (a : ℕ) → next ≤ a → a < end → found_in new a ≡ At 0
  pub few : length new ≤ length old + 1

-- ---- rows: how many tests tell steps apart, one after the other

-- Whether two targets are one.
abbrev pub same : Target → Target → Bool
same (Give v) (Give w) = nat_eq v w
same (At m) (At n) = nat_eq m n
same _ _ = false

-- Whether the second step is of one number, and its neighbours have one target.
abbrev pub second_stands_out : List Step → Bool
second_stands_out (x ∷ y ∷ z ∷ steps) = same x.target z.target && nat_eq (z.start - y.start) 1
second_stands_out _ = false

-- How many tests tell steps apart: each settles a step that stands out, and the one in front of it is answered as the one
-- after it; or else it settles the first step.
abbrev pub row : List Step → ℕ
row (x ∷ y ∷ z ∷ steps) = 1 + (if second_stands_out (x ∷ y ∷ z ∷ steps) then row (z ∷ steps) else row (y ∷ z ∷ steps))
row steps = length steps - 1

-- ---- code

-- The code from a place on. A place counts instructions from the end, the last one being 0.
abbrev pub tail_at : List sock_filter → ℕ → List sock_filter
tail_at code place = drop (length code - (place + 1)) code

-- Code that may be run: each instruction is fine at its place, places fit 32 bits, and it ends in a return that kills the process.
pub record IsSound (code : List sock_filter) : Type 0 where
  pub fine : (place : ℕ) (i : sock_filter) → slice_get code place ≡ Some i → IsFine i place (length code) × IsInRange i
  pub few : length code < 2 ^ 32
  pub ends : tail_at code 0 ≡ give 0x80000000 ∷ []

-- A run that begins at the head of the code, with this accumulator, returns the word w in at most n steps.
pub data Returns (r : List ℕ) : List sock_filter → ℕ → ℕ → ℕ → Type 0 where
  gives : (i : sock_filter) (rest : List sock_filter) (a w n : ℕ) → i.code ≡ 0x06 → i.k ≡ w → Returns r (i ∷ rest) a w (suc n)
  goes_on : (i : sock_filter) (rest : List sock_filter) (a a' w n d : ℕ) → ((place : ℕ) → Does i r place a (place + (1 + d)) a')
      → a' < 2 ^ 32 → Returns r (drop d rest) a' w n → Returns r (i ∷ rest) a w (suc n)

-- A run that begins at a target returns the word w in at most n steps: by a return that is to be written, or from a place,
-- with a step more for a jump, if the place is further than so many instructions from where the code begins.
pub data Starts (reach : ℕ) (code : List sock_filter) (r : List ℕ) : Target → ℕ → ℕ → ℕ → Type 0 where
  to_return : (w a n : ℕ) → 1 ≤ n → Starts reach code r (Give w) a w n
  to_place : (m w a k n : ℕ) → m < length code → Returns r (tail_at code m) a w k
      → k + (if nat_le (length code) (m + reach) then 0 else 1) ≤ n → Starts reach code r (At m) a w n

-- So whatever the accumulator holds. From what is written next no jump is needed to the last place: there the reach is 1, and 0 if
-- each place may be far.
abbrev pub Leads : ℕ → List sock_filter → List ℕ → Target → ℕ → ℕ → Type 0
Leads reach code r t w n = (a : ℕ) → a < 2 ^ 32 → Starts reach code r t a w n

-- The target is a word of 32 bits, or a place of the code.
abbrev pub IsIn : List sock_filter → Target → Type 0
IsIn code (Give w) = w < 2 ^ 32
IsIn code (At m) = m < length code

-- So are all targets that steps have for numbers below a size.
abbrev pub AllIn : List sock_filter → ℕ → List Step → Type 0
AllIn code size steps = (a : ℕ) → a < size → IsIn code (found_in steps a)

-- Instructions were put in front of the code, at most so many. (What starts at a place of the old code stays what it was.)
pub record Grows (old : List sock_filter) (most : ℕ) (new : List sock_filter) : Type 0 where
  pub front : List sock_filter
  pub whole : new ≡ front ++ old
  pub few : length front ≤ most

-- The instruction that does at a place what the target says.
abbrev pub stand_in : Target → ℕ → sock_filter
stand_in (Give w) place = give w
stand_in (At m) place = jump (place - (m + 1))

-- The place does what the target says, and is so near that a jump to it fits 8 bits though one more instruction may come
-- between. A place that is near is taken as it is.
pub record IsReached (old : List sock_filter) (t : Target) (place : ℕ) (new : List sock_filter) : Type 0 where
  pub grows : Grows old 1 new
  pub inside : place < length new
  pub near : length new ≤ place + 255
  pub leads : (r : List ℕ) (a w n : ℕ) → a < 2 ^ 32 → Starts 255 old r t a w n → Returns r (tail_at new place) a w n

-- Whether the accumulator passes a test.
abbrev pub passed : Test → ℕ → ℕ → Bool
passed Equal k a = nat_eq a k
passed AtLeast k a = nat_le k a

-- The target, which was written last, tests the accumulator, and goes on as the one target or the other says, in a step more.
pub record IsTested (old : List sock_filter) (test : Test) (k : ℕ) (yes no t : Target) (new : List sock_filter) : Type 0 where
  pub grows : Grows old 3 new
  pub last : t ≡ At (length new - 1)
  pub some : 1 ≤ length new
  pub leads : (r : List ℕ) (a w n : ℕ) → a < 2 ^ 32 → Starts 1 old r (if passed test k a then yes else no) a w n
      → Returns r new a w (suc n)

-- The target goes on as the steps say for the accumulator, in so many steps more than what they say takes.
abbrev pub GoesOn : List sock_filter → List Step → ℕ → Target → List sock_filter → Type 0
GoesOn old steps m t new = (r : List ℕ) (a w n : ℕ) → a < 2 ^ 32 → Starts 0 old r (found_in steps a) a w n → Starts 1 new r t a w (n + m)

-- Where so many steps are halved, each half no longer than half of a number; near their middle.
pub record IsMiddle (len most half : ℕ) : Type 0 where
  pub some : 1 ≤ half
  pub within : half < len
  pub low : half ≤ most - most / 2
  pub high : len - half ≤ most - most / 2
  pub near : half ≤ len / 2 + 2
  pub near_back : len / 2 ≤ half + 2

-- It takes two steps for each halving of a number that is no less than the steps; as many as it has tests if it is a row of few.
pub record IsTree (old : List sock_filter) (steps : List Step) (most : ℕ) (t : Target) (new : List sock_filter) : Type 0 where
  pub grows : Grows old (3 * (length steps - 1)) new
  pub inside : IsIn new t
  pub last : 2 ≤ length steps → t ≡ At (length new - 1)
  pub leads : (k : ℕ) → most ≤ 2 ^ k → GoesOn old steps (2 * k) t new
  pub soon : row steps ≤ 6 → GoesOn old steps (row steps) t new

-- The target goes on as the steps say for a number of the record, whatever the accumulator holds, in the machine's steps for a
-- number of this length.
pub record IsPart (old : List sock_filter) (l : SeccompCmpArgLen) (number : List ℕ → ℕ) (steps : List Step) (t : Target)
    (new : List sock_filter) : Type 0 where
  pub grows : Grows old (part_length l (length steps)) new
  pub inside : IsIn new t
  pub leads : (r : List ℕ) → IsRecord r → (w n k : ℕ) → length steps ≤ 2 ^ k → Leads 0 old r (found_in steps (number r)) w n
      → Leads 1 new r t w (n + part_steps l k)

-- ---- conditions

-- How many numbers a length has.
abbrev pub numbers_of : SeccompCmpArgLen → ℕ
numbers_of Dword = 2 ^ 32
numbers_of Qword = 2 ^ 64

-- Whether a number compares with a value as the operator says.
abbrev pub compares : SeccompCmpOp → ℕ → ℕ → Bool
compares Eq x v = nat_eq x v
compares Ne x v = not (nat_eq x v)
compares Ge x v = nat_le v x
compares Gt x v = nat_lt v x
compares Le x v = nat_le x v
compares Lt x v = nat_lt x v
compares (MaskedEq m) x v = nat_eq (bit_and x m) (bit_and v m)

-- The cut or the end, whichever comes first behind the number.
pub record IsTurn (number cut end next : ℕ) : Type 0 where
  pub above : number < next
  pub within : next ≤ end
  pub before : number < cut → next ≤ cut
  pub stops : next < end → next ≡ cut

-- The steps have the target for the numbers on which the condition's comparison holds, and else the other; there are at most three.
pub record AreLaid (c : Condition) (target other : Target) (steps : List Step) : Type 0 where
  pub are : AreSteps (numbers_of c.arg_len) steps
  pub each : (a : ℕ) → a < numbers_of c.arg_len
      → found_in steps a ≡ (if compares c.operator a (part_of c.arg_len c.value) then target else other)
  pub few : length steps ≤ 3
  pub plain : is_plain c.operator ≡ true

-- The front's target, or the back's if the front leaves it open: no ruling goes on at the last instruction.
abbrev pub filled_by : Target → Target → Target
filled_by front back = if same front (At 0) then back else front

-- The steps have what the front has, and what the back has for the numbers that the front leaves open.
pub record AreFilled (l : SeccompCmpArgLen) (front back steps : List Step) : Type 0 where
  pub are : AreSteps (numbers_of l) steps
  pub each : (a : ℕ) → a < numbers_of l → found_in steps a ≡ filled_by (found_in front a) (found_in back a)
  pub few : length steps + 1 ≤ length front + length back

-- Whether the condition holds on the record.
abbrev pub holds : List ℕ → Condition → Bool
holds r c = compares (operator_part c.arg_len c.operator) (part_of c.arg_len (argument_at r c.arg_index)) (part_of c.arg_len c.value)

-- The target goes on as `yes` says if the record passes the test, and else as `no` says, whatever the accumulator holds.
pub record IsMet (test : List ℕ → Bool) (most steps : ℕ) (old : List sock_filter) (yes no t : Target) (new : List sock_filter) :
    Type 0 where
  pub grows : Grows old most new
  pub inside : IsIn new t
  pub leads : (r : List ℕ) → IsRecord r → (w n : ℕ) → Leads 0 old r (if test r then yes else no) w n → Leads 0 new r t w (n + steps)

-- The test is whether all the conditions hold.
abbrev pub AreMet : List Condition → List sock_filter → Target → Target → Target → List sock_filter → Type 0
AreMet q = IsMet (λ r. list_all (holds r) q) (conditions_length q) (conditions_steps q)

-- ---- rulings and calls

-- Each ruling has one condition, without a mask, that compares the same as this one.
abbrev pub AreAlike : Condition → List Ruling → Type 0
AreAlike c [] = ⊤
AreAlike c (d ∷ run) = (alike (only d.conditions) (Some c) ≡ true) × AreAlike c run

-- Whether there is a condition, and its comparison holds for a number.
abbrev pub meets : Option Condition → ℕ → Bool
meets (Some c) a = compares c.operator a (part_of c.arg_len c.value)
meets None a = false

-- There is a condition, and its comparison holds for this number alone.
abbrev pub IsAsked : Option Condition → ℕ → Type 0
IsAsked (Some c) v = (c.operator ≡ Eq) × (v ≡ part_of c.arg_len c.value) × (v < numbers_of c.arg_len)
IsAsked None v = ⊥

-- What the first ruling of a run gives whose comparison holds for a number; if none does, that is left open.
abbrev pub chosen : List Ruling → ℕ → Target
chosen [] a = At 0
chosen (d ∷ run) a = if meets (only d.conditions) a then Give d.value else chosen run a

-- The steps have what the run gives, and are at most two for each ruling, and one.
pub record AreRunSteps (c : Condition) (run : List Ruling) (steps : List Step) : Type 0 where
  pub are : AreSteps (numbers_of c.arg_len) steps
  pub each : (a : ℕ) → a < numbers_of c.arg_len → found_in steps a ≡ chosen run a
  pub small : (a v : ℕ) → a < numbers_of c.arg_len → found_in steps a ≡ Give v → v < 2 ^ 32
  pub few : length steps ≤ 2 * length run + 1

-- The target goes on as the run says for what the condition compares, and else as what comes after it.
pub record IsRun (c : Condition) (run : List Ruling) (old : List sock_filter) (after t : Target) (new : List sock_filter) : Type 0 where
  pub grows : Grows old (rules_length run) new
  pub inside : IsIn new t
  pub leads : (r : List ℕ) → IsRecord r → (w n k : ℕ) → 2 * length run + 1 ≤ 2 ^ k
      → Leads 0 old r (filled_by (chosen run (part_of c.arg_len (argument_at r c.arg_index))) after) w n
      → Leads 1 new r t w (n + part_steps c.arg_len k)

-- The target goes on as the first of the rulings that holds says, or returns the default; if one value answers calls, it returns that.
pub record IsAnswer (code : List sock_filter) (default : ℕ) (rulings : List Ruling) (t : Target) : Type 0 where
  pub inside : IsIn code t
  pub one : (v : ℕ) → one_value default rulings ≡ Some v → t ≡ Give v
  pub leads : (r : List ℕ) → IsRecord r → (w n : ℕ) → First default r rulings w → Takes r 0 rulings n → Leads 0 code r t w (n + 1)

-- The target answers calls of a number.
abbrev pub Answers : DecisionSet → List sock_filter → ℕ → Target → Type 0
Answers d code n t = IsAnswer code (default_for d.defaults n) (rulings_for d.calls n) t

-- Each of these targets answers calls of its number.
abbrev pub AllAnswer : DecisionSet → List sock_filter → List (ℕ × Target) → Type 0
AllAnswer d code seen = All (λ e. Answers d code e.0 e.1) seen

-- Two numbers have the same rulings and the same default.
pub record AreAnsweredAlike (d : DecisionSet) (m n : ℕ) : Type 0 where
  pub rulings : rulings_for d.calls m ≡ rulings_for d.calls n
  pub default : default_for d.defaults m ≡ default_for d.defaults n

-- At most so many instructions were put in front, and the steps over the numbers below one answer each of them.
pub record AreCallSteps (old : List sock_filter) (d : DecisionSet) (most next : ℕ) (steps : List Step) (new : List sock_filter) :
    Type 0 where
  pub grows : Grows old most new
  pub are : AreSteps next steps
  pub each : (n : ℕ) → n < next → Answers d new n (found_in steps n)
