use Rattle.std.proofs.Common.{◌≡◌, map, take}
use Rattle.seccomp_profiles.specs.Conditions.{condition_of}
use Rattle.seccomp_profiles.proofs.concerns.alternatives_of.Given as goal

abbrev pub invariant-loop-argument : goal.invariant-loop-argument
invariant-loop-argument l = l.all.items ≡ map (condition_of l.arg_len) (take l.argument-index l.args)
