use Rattle.seccomp_tree.proofs.Common.{DefaultValue, rulings_for, get_or, length, ◌<◌, ◌^◌, ◌≡◌, ◌≤◌, ◌⊎◌, ℕ}
use Rattle.seccomp_tree.proofs.decisions.Decisions.next_start.Given as goal

-- the first defaults start at the number or below it, or at the next or above it
abbrev pub invariant-loop-default : goal.invariant-loop-default
invariant-loop-default l = record {
  above : l.number < l.next;
  within : l.next ≤ 2 ^ 32;
  none : (k : ℕ) (d : DefaultValue) → k < l.default-index → k < length l.self.defaults
      → ((get_or l.self.defaults k d).start ≤ l.number) ⊎ (l.next ≤ (get_or l.self.defaults k d).start);
  rulings : (n : ℕ) → l.number ≤ n → n < l.next → rulings_for l.self.calls n ≡ rulings_for l.self.calls l.number;
}
