use Rattle.std.proofs.Common.{◌≡◌, take}
use Rattle.seccomp_profiles.specs.Taken.{asked_by}
use Rattle.seccomp_profiles.proofs.taken.asked_by.Given as goal

abbrev pub invariant-loop-argument : goal.invariant-loop-argument
invariant-loop-argument l = l.all.items ≡ asked_by l.number (take l.argument-index l.args)
