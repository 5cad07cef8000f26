use Rattle.std.proofs.Common.{ℕ, ◌^◌, ◌<◌, ◌≤◌, ◌-◌, bit_and}
use Rattle.seccomp_compare.specs.WordSets.{HasValue}
use Rattle.seccomp_compare.proofs.values.tightened.Given as goal

-- none of the words is below the bound so far, under the mask
abbrev pub invariant-loop-least : goal.invariant-loop-least
invariant-loop-least l = record {
  first : (x : ℕ) → x < 2 ^ 32 → HasValue l.values x → l.least ≤ bit_and x l.values.mask;
  later : l.values.least ≤ l.least;
  fits : l.least < 2 ^ 32;
}

abbrev pub decreases-loop-least : goal.decreases-loop-least
decreases-loop-least l = 2 ^ 32 - l.least
