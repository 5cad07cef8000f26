use Rattle.std.proofs.Common.{◌≡◌, ◌≤◌, length, take}
use Rattle.seccomp_stack.specs.Stack.{IsStack}
use Rattle.seccomp_stack.specs.Joined.{stacked}
use Rattle.seccomp_stack.proofs.stack.Given as goal

-- the program is that of the first ones
abbrev pub invariant-loop-count : goal.invariant-loop-count
invariant-loop-count l = record {
  program : l.program.items ≡ stacked (take l.count l.programs);
  stack : IsStack (take l.count l.programs) l.program.items;
  some : 1 ≤ l.count;
  within : l.count ≤ length l.programs;
}
