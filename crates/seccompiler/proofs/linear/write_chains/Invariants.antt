use Rattle.std.proofs.Common.{◌≡◌, ◌≤◌, ◌++◌, List, length, take}
use Rattle.seccompiler.specs.Policy.{chains_of}
use Rattle.seccompiler.specs.ChainCode.{IsChainsCode}
use Rattle.seccompiler.proofs.FoundChains.{MapEntry}
use Rattle.seccompiler.proofs.linear.write_chains.Given as goal

abbrev pub invariant-loop-number : goal.invariant-loop-number
invariant-loop-number l = record {
  done : List MapEntry;
  rest : done ++ l.number-iterator ≡ l.rules.entries;
  made : IsChainsCode (chains_of done) l.mismatch l.matched (take l.start l.part);
  within : l.start ≤ length l.part;
}
