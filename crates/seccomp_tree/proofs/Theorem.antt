-- The theorem: what is written answers every record as is decided. Sound code is checked, and a run that returns a word ends with it.
use Rattle.seccomp_tree.proofs.{Begun.not_none, Common.other_architecture, Meeting.rule_or_not, Meeting.one_first, Trees.load_run}
use Rattle.std.proofs.lemmas.Option.{slice_get_within}
use Rattle.seccomp_tree.proofs.Common.{greatest_length, EndsAsDecided, IsTreeProgram, if◌then◌else◌, AreCallSteps, calls_length, EndsWithin}
use Rattle.seccomp_tree.proofs.Common.{DecisionSet, default_for, rulings_for, sock_filter, audit_word, one-le-pow, AreRanges, IsChecked, []}
use Rattle.seccomp_tree.proofs.Common.{IsDecided, drop-drop, length_by, nat_tests, pow-succ', run_steps, slice_get, then_step, to_return, ℕ}
use Rattle.seccomp_tree.proofs.Common.{word_fits, IsAnswer, IsRecord, IsTested, TakesOwn, drop_all, zero-add, IsSound, Returns, decided, ap}
use Rattle.seccomp_tree.proofs.Common.{goes_on, word_at, IsPart, Ruling, Target, begins, joined, length, nat_eq, passes, Dword, Equal, Give}
use Rattle.seccomp_tree.proofs.Common.{First, Leads, Takes, arith, gives, other, stays, stops, subst, Goes, List, Some, Step, drop, ends}
use Rattle.seccomp_tree.proofs.Common.{give, load, refl, zero, inl, inr, one, own, suc, ◌*◌, ◌+◌, ◌-◌, ◌<◌, ◌^◌, ◌∷◌, ◌≡◌, ◌≤◌}
use Rattle.seccomp_tree.proofs.{Decided.decided_some, Decided.fewest, Runs.returns_more, Runs.grown_long, Runs.sound_some}

-- A run of n steps goes n places at least.
goes_far : (p : List sock_filter) (r : List ℕ) {place a n place' a' : ℕ} → Goes p r place a n place' a' → place + n ≤ place'
goes_far p r stays = omega arith
goes_far p r (then_step g step) = let does = step.does in grind (arith, goes_far p r g)

get_at : (p : List sock_filter) (place : ℕ) (i : sock_filter) (rest : List sock_filter) → drop place p ≡ i ∷ rest
    → slice_get p place ≡ Some i
get_at (x ∷ p) zero i rest e = cc
get_at (x ∷ p) (suc place) i rest e = get_at p place i rest e
get_at [] place i rest e = cc (drop_all {X = sock_filter} place [] (omega arith))

-- a run that has come to a place ends as it does from there
ends_from : (p : List sock_filter) (r : List ℕ) (tail : List sock_filter) (place m a w n : ℕ) → drop place p ≡ tail → Goes p r 0 0 m place
    a → a < 2 ^ 32 → Returns r tail a w n → EndsWithin p r w (m + n)
ends_from p r tail place m a w n at goes small (gives i rest b v k is word) = record {
  steps = m + 1;
  few = omega arith;
  ends = record {
    place = place;
    accumulator = a;
    instruction = i;
    some = omega arith;
    goes = let same : m + 1 - 1 ≡ m = omega arith in rw same goes;
    here = get_at p place i rest at;
    returns = is;
    value = word;
  };
}
ends_from p r tail place m a w n at goes small (goes_on i rest b a' v n' d does small' h) =
    let step = then_step goes record {
      instruction = i;
      here = get_at p place i rest at;
      before = small;
      after = small';
      does = does place;
    } in
    let at' : drop (place + (1 + d)) p ≡ drop d rest = grind (arith, drop-drop (1 + d) place p, at) in
    subst (EndsWithin p r v) (omega arith) (ends_from p r (drop d rest) (place + (1 + d)) (suc m) a' w n' at' step small' h)

-- A program whose run returns a word ends with it.
pub program_ends : (p : List sock_filter) (r : List ℕ) (w n : ℕ) → Returns r p 0 w n → EndsWithin p r w n
program_ends p r w n h = rw zero-add at (ends_from p r p 0 0 0 w n refl stays (omega arith) h)

-- Sound code is a checked program, if it is no longer than that may be.
pub sound_checked : (p : List sock_filter) → IsSound p → length p ≤ greatest_length → IsChecked p
sound_checked p h few = record {
  some = sound_some p h;
  few = few;
  ranges = record { each = λ place i here. (h.fine place i here).1 };
  each = λ place i here. (h.fine place i here).0;
  last = λ i here. grind (arith, here, get_at p (length p - 1) (give 0x80000000) [] h.ends);
}

-- what answers a number leads to what is decided, within its own steps and one
answer_leads : (d : DecisionSet) (code : List sock_filter) (t : Target) (r : List ℕ) (w n : ℕ) → IsRecord r
    → IsAnswer code (default_for d.defaults (word_at r 0)) (rulings_for d.calls (word_at r 0)) t → word_at r 4 ≡ audit_word d.target_arch
    → First (default_for d.defaults (word_at r 0)) r (rulings_for d.calls (word_at r 0)) w → TakesOwn d r n → Leads 0 code r t w (n + 1)
answer_leads d code t r w n rec h arch first (other not) = absurd (not arch)
answer_leads d code t r w n rec h arch first (one v is) =
    λ a small. rw (h.one v is, one_first _ v w _ r is first) (to_return v a 1 (omega arith))
answer_leads d code t r w n rec h arch first (own k takes) = h.leads r rec w k first takes

power : (n : ℕ) → n ≤ 2 ^ n
power zero = omega arith
power (suc n) = omega (arith, power n, pow-succ' 2 n, one-le-pow n 2 (omega arith))

entered : (r : List ℕ) (i : ℕ) (d : Ruling) (rest : List Ruling) → (n : ℕ) × Takes r i rest n → (n : ℕ) × Takes r (suc i) (d ∷ rest) n
entered r i d rest x = elim (rule_or_not d.conditions r) [ inl h ↦ (0, stops i d rest h) | inr not ↦ (x.0, passes i d rest x.0 not x.1) ]

takes_some : (r : List ℕ) (rulings : List Ruling) (i : ℕ) → (n : ℕ) × Takes r i rulings n
takes_some r [] i = (0, ends i)
takes_some r (d ∷ rest) (suc i) = entered r i d rest (takes_some r rest i)
takes_some r (d ∷ rest) zero =
    let j = joined d.conditions rest in
    let x = entered r j d rest (takes_some r rest j) in
    (run_steps d.conditions (2 * suc j + 1) + x.0, begins d rest (2 * suc j + 1) x.0 (power (2 * suc j + 1)) x.1)

-- What is written is short, and the program of the decisions if it is no longer than that may be.
pub record IsWritten (d : DecisionSet) (p : List sock_filter) : Type 0 where
  pub short : (starts : List ℕ) → AreRanges d starts → length p ≤ length_by d (length starts)
  pub program : IsSound p → length p ≤ greatest_length → IsTreeProgram d p

-- A load of the architecture's word, its test, and for the calls of the architecture a tree over numbers.
module _ {d : DecisionSet} {p mid behind tested : List sock_filter} {steps : List Step} {calls test : Target}
    (answers : AreCallSteps (give 0x80000000 ∷ []) d (calls_length d.calls) (2 ^ 32) steps mid)
    (word : IsPart mid Dword (λ r. word_at r 0) steps calls behind)
    (tests : IsTested behind Equal (audit_word d.target_arch) calls (Give 0x80000000) test tested) (whole : p ≡ load 4 ∷ tested) where
  -- the test of the architecture's word, after its load
  chosen_runs : (r : List ℕ) (u : Target) (w m : ℕ) → IsRecord r
      → (if nat_eq (word_at r 4) (audit_word d.target_arch) then calls else Give 0x80000000) ≡ u → Leads 1 behind r u w m
      → Returns r p 0 w (suc (suc m))
  chosen_runs r u w m rec is enters =
      let small = word_fits r 4 rec in
      rw whole (load_run r tested 4 0 w (suc m) rec (omega arith)
      (tests.leads r (word_at r 4) w m small (rw is (enters (word_at r 4) small))))

  -- a program that is written returns what is decided
  written_returns : (r : List ℕ) (w n k : ℕ) → IsRecord r → length steps ≤ 2 ^ k → IsDecided d r w → TakesOwn d r n
      → Returns r p 0 w (4 + 2 * k + n)
  written_returns r w n k rec few (other_architecture not is) takes = returns_more (4 + 2 * k + n) (omega arith)
      (chosen_runs r (Give w) w 1 rec (grind (arith, nat_tests, not, is)) (λ a small. to_return w a 1 (omega arith)))
  written_returns r w n k rec few (decided arch first) takes = returns_more (4 + 2 * k + n) (omega arith)
      (chosen_runs r calls w (n + 1 + (1 + 2 * k)) rec (grind (arith, nat_tests, arch)) (word.leads r rec w (n + 1) k few
      (answer_leads d mid _ r w n rec (answers.each (word_at r 0) (word_fits r 0 rec)) arch first takes)))

  written_decides : (r : List ℕ) → IsRecord r → EndsAsDecided d p r
  written_decides r rec =
      let k = length steps in
      let x = decided_some d r in
      let y = takes_some r (rulings_for d.calls (word_at r 0)) 0 in
      let h = program_ends p r x.0 _ (written_returns r x.0 y.0 k rec (power k) x.1 (own y.0 y.1)) in
      let short : h.steps ≤ length p = omega (arith, goes_far p r h.ends.goes, slice_get_within p _ _ h.ends.here, h.ends.some) in
      record { word = x.0; decided = x.1; ends = record { steps = h.steps; few = short; ends = h.ends } }

  written_short : (starts : List ℕ) → AreRanges d starts → length p ≤ length_by d (length starts)
  written_short starts ranges =
      let some = not_none (2 ^ 32) steps answers.are (omega arith) in
      let few = fewest steps starts answers ranges in
      let grown = (grown_long answers.grows).1 in
      omega (arith, some, few, grown, (grown_long word.grows).1, (grown_long tests.grows).1, ap length whole)

  pub is_written : IsWritten d p
  is_written = record {
    short = written_short;
    program = λ sound fits. record {
      checked = sound_checked p sound fits;
      decides = written_decides;
      soon = λ r rec w n k decision takes starts ranges few.
          let less = fewest steps starts answers ranges in
          program_ends p r w (4 + 2 * k + n) (written_returns r w n k rec (omega (arith, less)) decision takes);
      short = written_short;
    };
  }
