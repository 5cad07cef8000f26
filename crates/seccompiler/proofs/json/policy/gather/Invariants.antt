use Rattle.std.proofs.Common.{take}
use Rattle.seccompiler.proofs.json.policy.GatheredEntries.{AreDone}
use Rattle.seccompiler.proofs.json.policy.gather.Given as goal

abbrev pub invariant-loop-entry : goal.invariant-loop-entry
invariant-loop-entry l = AreDone l.arch (take l.entry-index l.entries) (record { rules = l.rules; always = l.always })
