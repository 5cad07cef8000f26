-- What decisions decide: one word for each record, and for a filter what it decides; and steps over call numbers, as few as can be.
use Rattle.seccomp_tree.proofs.{Begun.found_first, Begun.over_below, Begun.steps_more, Runs.is_in_grown, Runs.leads_grown, Runs.grows_on}
use Rattle.seccomp_tree.specs.Code.{AllAnswer, Answers, AreAnsweredAlike}
use Rattle.std.specs.List.{Contains}
use Rattle.std.proofs.lemmas.List.Elements.{All-contains, All-push, All-weaker}
use Rattle.std.{proofs.lemmas.Map.Keys.sorted_tail, proofs.lemmas.Map.Views.All-after_first, specs.List.Sorted.IsStrictlySortedBy}
use Rattle.seccomp_tree.proofs.{Common.other_architecture, Common.AreCallNumbers, Common.DecisionSet, Meeting.first_alone, Meeting.first_is}
use Rattle.seccomp_tree.proofs.Common.{policy_differs, if◌then◌else◌, AreCallSteps, ChainMatches, DefaultValue, IsCallNumber, append_assoc}
use Rattle.seccomp_tree.proofs.Common.{calls_length, decisions_of, default_from, insert_entry, rules_length, chain_under, default_for, Bool}
use Rattle.seccomp_tree.proofs.Common.{rulings_for, sock_filter, IsDecision, audit_word, map-append, numbers_of, option_map, rulings_of, []}
use Rattle.seccomp_tree.proofs.Common.{AreRanges, Condition, IsDecided, RuleHolds, chains_of, drop_more, is_member, nat_tests, unwrap_or, ℕ}
use Rattle.seccomp_tree.proofs.Common.{found_in, All-head, All-tail, DecideAs, IsAnswer, IsPushed, calls_of, cases_eq, cases_lt, AreOver, ℤ}
use Rattle.seccomp_tree.proofs.Common.{All-nil, call_of, decided, int_cmp, keys_of, nat_cmp, nothing, word_at, word_of, Filter, Global, All}
use Rattle.seccomp_tree.proofs.Common.{Option, Ruling, Target, behind, get_or, length, lookup, nat_eq, nat_le, nat_lt, Chain, First, Grows}
use Rattle.seccomp_tree.proofs.Common.{Holds, arith, false, holds, is_at, subst, Less, List, None, Rule, Some, Step, drop, here, ints, refl}
use Rattle.seccomp_tree.proofs.Common.{true, ◌++◌, Any, Vec, inl, inr, map, pos, suc, sym}
use Rattle.seccomp_tree.proofs.Common.{zero, ◌+◌, ◌-◌, ◌<◌, ◌^◌, ◌∙◌, ◌∷◌, ◌≡◌, ◌≤◌, ◌⊎◌, ap}
use Rattle.seccompiler.specs.Policy.{other_architecture as other}

-- at an element there is it, and what is after
pub drop_at : {A : Type 0} (l : List A) (i : ℕ) (x : A) → i < length l → x ≡ get_or l i x → drop i l ≡ x ∷ drop (i + 1) l
drop_at l i x lt is = drop_more l i x lt ∙ ap (λ y. y ∷ drop (i + 1) l) (sym is)

-- and in front of what there was
pub drop_back : {A : Type 0} (l : List A) (n : ℕ) (x : A) → 0 < n → n ≤ length l → x ≡ get_or l (n - 1) x → drop (n - 1) l ≡ x ∷ drop n l
drop_back l n x some le is = drop_at l (n - 1) x (omega arith) is ∙ ap (λ k. x ∷ drop k l) (omega arith)

-- one word
pub one_decided : (d : DecisionSet) (r : List ℕ) (v w : ℕ) → IsDecided d r v → IsDecided d r w → v ≡ w
one_decided d r v w h k = grind (arith, first_alone, h, k)

-- something is decided for each record
pub decided_some : (d : DecisionSet) (r : List ℕ) → (w : ℕ) × IsDecided d r w
decided_some d r = elim (cases_eq (word_at r 4) (audit_word d.target_arch)) [
  | inl arch ↦ (_, decided arch (first_is (default_for d.defaults (word_at r 0)) (rulings_for d.calls (word_at r 0)) r))
  | inr not ↦ (0x80000000, other_architecture not refl)
]

-- ---- the loop of `of_filter`

-- what is so of all is so of one between
at_middle : {A : Type 0} (P : A → Type 0) (front : List A) (x : A) (back : List A) → All P (front ++ x ∷ back) → P x
at_middle P [] x back h = All-head P x back h
at_middle P (y ∷ front) x back h = at_middle P front x back (All-tail P y (front ++ x ∷ back) h)

pub record CallsSoFar (w : ℕ) (chains : List (ℤ × Chain)) (left : List (ℤ × Vec Rule Global)) (calls : List (ℕ × Vec Ruling Global)) :
    Type 0 where
  pub made : calls_of calls ++ map (call_of w) (chains_of left) ≡ map (call_of w) chains
  pub keys : map (λ x. pos x.0) calls ++ keys_of left ≡ numbers_of chains

pub next_number : {w : ℕ} {chains : List (ℤ × Chain)} {left : List (ℤ × Vec Rule Global)} {e : ℤ × Vec Rule Global}
    {calls : List (ℕ × Vec Ruling Global)} → CallsSoFar w chains (e ∷ left) calls → AreCallNumbers (numbers_of chains) → IsCallNumber e.0
next_number {left = left} {e} {calls} h fit =
    at_middle IsCallNumber (map (λ (x : ℕ × Vec Ruling Global). pos x.0) calls) e.0 (keys_of left) (subst AreCallNumbers (sym h.keys) fit)

-- a call whose number is above those so far goes last
insert_last : (calls : List (ℕ × Vec Ruling Global)) (n : ℕ) (q : Vec Ruling Global) (back : List ℤ)
    → IsStrictlySortedBy int_cmp (map (λ x. pos x.0) calls ++ pos n ∷ back) → insert_entry nat_cmp calls n q ≡ calls ++ (n, q) ∷ []
insert_last [] n q back h = refl
insert_last (x ∷ calls) n q back h =
    let others : List ℤ = map (λ (y : ℕ × Vec Ruling Global). pos y.0) calls in
    let all = All-after_first int_cmp (pos x.0) (others ++ pos n ∷ back) h in
    let below = at_middle (λ (z : ℤ). int_cmp (pos x.0) z ≡ Less) others (pos n) back all in
    grind (arith, nat_tests, ints, below, insert_last calls n q back (sorted_tail int_cmp (pos x.0) (others ++ pos n ∷ back) h))

pub calls_next : (w n : ℕ) (z : ℤ) (chain : Vec Rule Global) (q : Vec Ruling Global) (chains : List (ℤ × Chain))
    (back : List (ℤ × Vec Rule Global)) (calls : List (ℕ × Vec Ruling Global)) → CallsSoFar w chains ((z, chain) ∷ back) calls
    → IsStrictlySortedBy int_cmp (numbers_of chains) → z ≡ pos n → q.items ≡ rulings_of w chain.items
    → CallsSoFar w chains back (insert_entry nat_cmp calls n q)
calls_next w n z chain q chains back calls h sorted is same =
    let keys = rw is at h.keys in
    rw (insert_last calls n q (keys_of back) (subst (IsStrictlySortedBy int_cmp) (sym keys) sorted)) record {
      made = rw (map-append, append_assoc, same) (rw is at h.made);
      keys = rw (map-append, append_assoc) keys;
    }

-- what the first of a chain's rulings names
module _ (r : List ℕ) (default w : ℕ) where
  -- The word if something is so, or else the default.
  abbrev Names : Type 0 → ℕ → Type 0
  Names Is v = (Is × (v ≡ w)) ⊎ ((Is → ⊥) × (v ≡ default))

  -- Some rule holds: the first, or one behind it.
  first_or_later : (q : Rule) (chain : Chain) → Any (λ x. RuleHolds x r) (q ∷ chain) → RuleHolds q r ⊎ Any (λ x. RuleHolds x r) chain
  first_or_later q chain (zero, x, within, is, holds) = inl (subst (λ y. RuleHolds y r) (sym is) holds)
  first_or_later q chain (suc k, x, within, is, holds) = inr (k, x, omega arith, is, holds)

  later : (q : Rule) (chain : Chain) → Any (λ x. RuleHolds x r) chain → Any (λ x. RuleHolds x r) (q ∷ chain)
  later q chain (k, x, within, is, holds) = (suc k, x, omega arith, is, holds)

  rules_name : (chain : Chain) (v : ℕ) → First default r (map (λ q. record { conditions = q; value = w }) chain) v
      → Names (Any (λ q. RuleHolds q r) chain) v
  rules_name [] v nothing = inr (λ any. let within = any.2 in omega (arith, within), refl)
  rules_name (q ∷ chain) v (here d rest holds) = inl ((0, q, omega arith, refl, holds), refl)
  rules_name (q ∷ chain) v (behind d rest u not first) =
      grind (arith, first_or_later q chain, later q chain, rules_name chain v first, not)

  -- so for a chain, which matches if it has no rules
  chain_names : (chain : Chain) (v : ℕ) → First default r (rulings_of w chain) v → Names (ChainMatches chain r) v
  chain_names [] v (here d rest holds) = inl (inl refl, refl)
  chain_names [] v (behind d rest u not first) = absurd (not (All-nil (λ (c : Condition). Holds c r)))
  chain_names (q ∷ chain) v first = grind (arith, rules_name (q ∷ chain) v first)

-- the chain of a number
rulings_found : (w : ℕ) (chains : List (ℤ × Chain)) (n : ℕ) → AreCallNumbers (numbers_of chains)
    → rulings_for (map (call_of w) chains) n ≡ unwrap_or (option_map (rulings_of w) (chain_under chains n)) []
rulings_found w [] n numbers = refl
rulings_found w (e ∷ chains) n numbers =
    let call = All-head IsCallNumber e.0 (numbers_of chains) numbers in
    let rest = rulings_found w chains n (All-tail IsCallNumber e.0 (numbers_of chains) numbers) in
    grind (arith, nat_tests, ints, call, rest)

module _ (f : Filter) (r : List ℕ) where
  given_decision : (found : Option Chain) → chain_under f.chains (word_at r 0) ≡ found → word_at r 4 ≡ audit_word f.target_arch → (v : ℕ)
      → First (word_of f.mismatch_action) r (unwrap_or (option_map (rulings_of (word_of f.match_action)) found) []) v → IsDecision f r v
  given_decision None is own v nothing = policy_differs own (λ m. let e = m.there in cc) refl
  given_decision (Some chain) is own v first =
      grind (arith, own, is, chain_names r (word_of f.mismatch_action) (word_of f.match_action) chain v first)

-- a filter names one word for a record
pub one_decision : (f : Filter) (r : List ℕ) (v w : ℕ) → IsDecision f r v → IsDecision f r w → v ≡ w
one_decision f r v w h k = grind arith

-- what is decided is what the filter decides; and as something is decided, and the filter decides one word, also the other way
pub decide_as : (f : Filter) → AreCallNumbers (numbers_of f.chains) → DecideAs f (decisions_of f)
decide_as f numbers r w = (to w, from)
  where
    to : (v : ℕ) → IsDecided (decisions_of f) r v → IsDecision f r v
    to v (other_architecture not is) = other not is
    to v (decided own first) =
        let default : default_for (decisions_of f).defaults (word_at r 0) ≡ word_of f.mismatch_action = grind (arith, nat_tests) in
        let found = rulings_found (word_of f.match_action) f.chains (word_at r 0) numbers in
        given_decision f r _ refl own v (rw (found, default) at first)

    from : IsDecision f r w → IsDecided (decisions_of f) r w
    from h = let x = decided_some (decisions_of f) r in rw (one_decision f r x.0 w (to x.0 x.1) h) at x.1

-- ---- the loop of `next_start`

-- numbers that no start parts have one default
pub same_from : (value : ℕ) (defaults : List DefaultValue) (m n : ℕ)
    → ((k : ℕ) (d : DefaultValue) → k < length defaults → ((get_or defaults k d).start ≤ m) ⊎ (n < (get_or defaults k d).start))
    → m ≤ n → default_from value defaults n ≡ default_from value defaults m
same_from value [] m n parts le = refl
same_from value (x ∷ defaults) m n parts le =
    let rest = λ (v : ℕ). same_from v defaults m n (λ k d lt. parts (suc k) d (omega arith)) le in
    grind (arith, nat_tests, parts 0 x (omega arith), rest x.value, rest value)

-- the rulings of a number are those that a map has for it
abbrev pub items_of : Option (Vec Ruling Global) → List Ruling
items_of None = []
items_of (Some v) = v.items

pub rulings_under : (entries : List (ℕ × Vec Ruling Global)) (n : ℕ)
    → items_of (lookup (is_at (nat_cmp n)) entries) ≡ rulings_for (calls_of entries) n
rulings_under [] n = refl
rulings_under (e ∷ entries) n = grind (arith, nat_tests, rulings_under entries n)

-- up to a number there are no rulings, and the next is no greater or the very next
pub none_to : {number next : ℕ} (entries : List (ℕ × Vec Ruling Global)) (empty : ℕ) → (next ≤ empty) ⊎ (next ≡ number + 1)
    → ((n : ℕ) → number ≤ n → n < empty → items_of (lookup (is_at (nat_cmp n)) entries) ≡ []) → (n : ℕ) → number ≤ n → n < next
    → rulings_for (calls_of entries) n ≡ rulings_for (calls_of entries) number
none_to {number} entries empty which none n le lt = elim (cases_eq n number) [
  | inl same ↦ ap (rulings_for (calls_of entries)) same
  | inr not ↦ grind (arith, which, not, rulings_under entries, none n le, none number)
]

-- ---- the loop of `call_steps`

-- How many instructions the rulings of the numbers below one take.
abbrev pub below_length : List (ℕ × List Ruling) → ℕ → ℕ
below_length [] n = 0
below_length (e ∷ calls) n = (if nat_lt e.0 n then rules_length e.1 else 0) + below_length calls n

pub below_all : (calls : List (ℕ × List Ruling)) (n : ℕ) → below_length calls n ≤ calls_length calls
below_all [] n = omega arith
below_all (e ∷ calls) n = grind (arith, nat_tests, below_all calls n)

below_one : (calls : List (ℕ × List Ruling)) (n m : ℕ) → n < m
    → below_length calls n + rules_length (rulings_for calls n) ≤ below_length calls m
below_one [] n m lt = omega arith
below_one (e ∷ calls) n m lt = grind (arith, nat_tests, below_one calls n m lt)

-- a call's rulings are among all
pub calls_less : (calls : List (ℕ × List Ruling)) (n : ℕ) → rules_length (rulings_for calls n) ≤ calls_length calls
calls_less calls n = omega (arith, below_one calls n (n + 1) (omega arith), below_all calls (n + 1))

-- what answers still does when more is written
pub answer_grown : {default most : ℕ} {rulings : List Ruling} {old new : List sock_filter} {t : Target} → Grows old most new
    → IsAnswer old default rulings t → IsAnswer new default rulings t
answer_grown grows h = record {
  inside = is_in_grown _ grows h.inside;
  one = h.one;
  leads = λ r rec w n first takes a small. leads_grown grows (h.leads r rec w n first takes a small);
}

-- and calls of another number too, if they are answered alike
pub answer_seen : {d : DecisionSet} {code : List sock_filter} {n : ℕ} (seen : List (ℕ × Target)) (e : ℕ × Target)
    → AllAnswer d code seen → Contains seen e → AreAnsweredAlike d e.0 n → Answers d code n e.1
answer_seen {d} {code} seen e all among alike =
    rw (← alike.rulings, ← alike.default) (All-contains (λ (x : ℕ × Target). Answers d code x.0 x.1) seen e all among)

pub seen_grown : {most : ℕ} {old new : List sock_filter} (d : DecisionSet) (seen : List (ℕ × Target)) → Grows old most new
    → AllAnswer d old seen → AllAnswer d new seen
seen_grown {old = old} {new} d seen grows all =
    All-weaker (λ (x : ℕ × Target). Answers d old x.0 x.1) (λ (x : ℕ × Target). Answers d new x.0 x.1)
    (λ x h. answer_grown grows h) seen all

pub seen_more : {most : ℕ} {old new : List sock_filter} {t : Target} (d : DecisionSet) (seen : List (ℕ × Target)) (n : ℕ)
    → Grows old most new → AllAnswer d old seen → Answers d new n t → AllAnswer d new (seen ++ (n, t) ∷ [])
seen_more {new = new} {t} d seen n grows all answer =
    All-push (λ (x : ℕ × Target). Answers d new x.0 x.1) seen (n, t) (seen_grown d seen grows all) answer

pub calls_on : {d : DecisionSet} {old mid new : List sock_filter} {steps more : List Step} {number next : ℕ} {t : Target}
    → AreCallSteps old d (below_length d.calls number) number steps mid → Grows mid (rules_length (rulings_for d.calls number)) new
    → IsAnswer new (default_for d.defaults number) (rulings_for d.calls number) t → IsPushed steps number t more → number < next
    → ((n : ℕ) → number ≤ n → n < next → default_for d.defaults n ≡ default_for d.defaults number)
    → ((n : ℕ) → number ≤ n → n < next → rulings_for d.calls n ≡ rulings_for d.calls number)
    → AreCallSteps old d (below_length d.calls next) next more new
calls_on {d} {number = number} {next} h grows answer pushed up defaults rulings = record {
  grows = grows_on _ h.grows grows (below_one d.calls number next up);
  are = steps_more (number + 1) next _ (omega arith) (omega (arith, up)) pushed.are;
  each = λ n lt. elim (cases_lt n number) [
    | inl less ↦ rw (pushed.below n less) (answer_grown grows (h.each n less))
    | inr le ↦ rw (pushed.from n le, defaults n le lt, rulings n le lt) answer
  ];
}

-- ---- steps without alike neighbours are at most as many as any ranges of the decisions

-- How many numbers are at a number or above it.
abbrev above : ℕ → List ℕ → ℕ
above n [] = 0
above n (s ∷ starts) = (if nat_le n s then 1 else 0) + above n starts

above_all : (n : ℕ) (starts : List ℕ) → above n starts ≤ length starts
above_all n [] = omega arith
above_all n (s ∷ starts) = grind (arith, nat_tests, above_all n starts)

-- above one of them there are fewer
above_less : (m n : ℕ) (starts : List ℕ) → m < n → (if is_member nat_eq starts m then 1 else 0) + above n starts ≤ above m starts
above_less m n [] lt = omega arith
above_less m n (s ∷ starts) lt = grind (arith, nat_tests, above_less m n starts lt)

-- where each step starts, ranges start
few_from : (d : DecisionSet) (code : List sock_filter) (starts : List ℕ) (y : Step) (steps : List Step) → AreRanges d starts
    → is_member nat_eq starts y.start ≡ true → AreOver (2 ^ 32) (y ∷ steps)
    → ((n : ℕ) → y.start ≤ n → n < 2 ^ 32 → IsAnswer code (default_for d.defaults n) (rulings_for d.calls n) (found_in (y ∷ steps) n))
    → length (y ∷ steps) ≤ above y.start starts
few_from d code starts y [] ranges first over each = grind (arith, above_less y.start (y.start + 1) starts, first)
few_from d code starts y (x ∷ steps) ranges first over each =
    let rest = few_from d code starts x steps ranges (begins (is_member nat_eq starts (x.start - 1 + 1)) refl) over.1.1 (λ n le lt.
    let yes : nat_le x.start n ≡ true = grind (arith, nat_tests) in rw yes at (each n (omega (arith, over.0)) lt)) in
    grind (arith, rest, above_less y.start x.start starts, first, over.0)
  where
    begins : (b : Bool) → is_member nat_eq starts (x.start - 1 + 1) ≡ b → is_member nat_eq starts x.start ≡ true
    begins true e = ap (is_member nat_eq starts) (omega (arith, over.0)) ∙ e
    begins false e =
        let fits = over_below (2 ^ 32) x steps over.1.1 in
        let alike = ranges.alike (x.start - 1) (omega (arith, over.0, fits)) e in
        let low = (each (x.start - 1) (omega (arith, over.0)) (omega (arith, fits))).one alike.0 alike.1 in
        let high = (each (x.start - 1 + 1) (omega (arith, over.0)) (omega (arith, over.0, fits))).one alike.0 alike.2 in
        let at = found_first (2 ^ 32) x steps (x.start - 1 + 1) over.1.1 (omega (arith, over.0)) in
        absurd (over.1.0 (grind (arith, nat_tests, over.0, low, high, at)))

pub fewest : {d : DecisionSet} {most : ℕ} {old code : List sock_filter} (steps : List Step) (starts : List ℕ)
    → AreCallSteps old d most (2 ^ 32) steps code → AreRanges d starts → length steps ≤ length starts
fewest [] starts h ranges = omega arith
fewest {d} {code = code} (x ∷ steps) starts h ranges =
    let zero : is_member nat_eq starts x.start ≡ true = rw h.are.0 ranges.zero in
    omega (arith, few_from d code starts x steps ranges zero h.are.1 (λ n le lt. h.each n lt), above_all x.start starts)
