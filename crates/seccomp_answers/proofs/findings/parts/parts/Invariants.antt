use Rattle.std.proofs.Common.{◌≡◌, ◌⊎◌, ◌≤◌, ◌<◌, ◌-◌, ℕ}
use Rattle.std.specs.Prelude.{◌^◌}
use Rattle.seccompiler.specs.Architecture.{table_of}
use Rattle.seccomp_answers.specs.Findings.{ArePartsBelow, HasName, LacksName}
use Rattle.seccomp_answers.proofs.findings.parts.parts.Given as goal

-- the parts are those below a number that ends one with a name, and none from there on so far has a name
abbrev pub invariant-loop-number : goal.invariant-loop-number
invariant-loop-number l = record {
  few : l.least ≤ l.number;
  below : ArePartsBelow (table_of l.fn.target) l.parts.items l.least;
  begins : (l.least ≡ 0) ⊎ (HasName (table_of l.fn.target) (l.least - 1) ⊎ (l.least ≡ 2 ^ 30));
  unnamed : (n : ℕ) → l.least ≤ n → n < l.number → LacksName (table_of l.fn.target) n;
}
