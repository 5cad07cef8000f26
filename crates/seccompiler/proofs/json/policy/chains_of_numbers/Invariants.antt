use Rattle.std.proofs.Common.{◌≡◌, ℤ}
use Rattle.seccompiler.specs.JsonGathered.{chain_of, rules_at}
use Rattle.seccompiler.proofs.json.policy.EntryChains.{made_at}
use Rattle.seccompiler.proofs.json.policy.ToldNumbers.{told_below}
use Rattle.seccompiler.proofs.json.policy.chains_of_numbers.Given as goal

abbrev pub invariant-loop-number : goal.invariant-loop-number
invariant-loop-number l = (q : ℤ) → made_at l.found.items q ≡ chain_of (told_below l.always l.number q) (rules_at l.fn.gathered q)
