use Rattle.std.proofs.Common.{◌≡◌, drop}
use Rattle.std.specs.List.{list_any}
use Rattle.seccomp_profiles.specs.Decision.{is_idle}
use Rattle.seccomp_profiles.proofs.concerns.has_idle.Given as goal

abbrev pub invariant-loop-argument : goal.invariant-loop-argument
invariant-loop-argument l = list_any is_idle (drop l.argument-index l.args) ≡ list_any is_idle l.args
