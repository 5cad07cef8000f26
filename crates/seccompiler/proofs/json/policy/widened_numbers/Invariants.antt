use Rattle.std.specs.Option.{is_some}
use Rattle.seccompiler.specs.JsonPolicyOf.{chain_at}
use Rattle.seccompiler.specs.Policy.{chains_of}
use Rattle.seccompiler.proofs.json.policy.ToldNumbers.{AreListed}
use Rattle.seccompiler.proofs.json.policy.widened_numbers.Given as goal

abbrev pub invariant-loop-number : goal.invariant-loop-number
invariant-loop-number l = AreListed l.always (λ q. is_some (chain_at (chains_of l.rules.entries) q)) l.number l.numbers.items
