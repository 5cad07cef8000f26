use Rattle.std.proofs.Common.{◌≡◌, map, take}
use Rattle.seccomp_profiles.specs.Taken.{cut}
use Rattle.seccomp_profiles.proofs.taken.cut_all.Given as goal

abbrev pub invariant-loop-argument : goal.invariant-loop-argument
invariant-loop-argument l = l.all.items ≡ map cut (take l.argument-index l.args)
