use Rattle.std.proofs.Common.{◌≡◌, ◌<◌, ℕ, [], IsSome}
use Rattle.std.specs.BTreeMap.{get}
use Rattle.std.specs.Ordering.{nat_cmp}
use Rattle.seccomp_entries.proofs.decisions.Calls.{AreNumbered, rulings_at}
use Rattle.seccomp_entries.proofs.decisions.no_rulings.Given as goal

-- the numbers so far
abbrev pub invariant-loop-number : goal.invariant-loop-number
invariant-loop-number l = record {
  numbers : AreNumbered l.number l.calls.entries;
  has : (n : ℕ) → n < l.number → IsSome (get nat_cmp l.calls n);
  none : (n : ℕ) → rulings_at (get nat_cmp l.calls n) ≡ [];
}
