use Rattle.std.proofs.Common.{◌≡◌, ◌∷◌, [], map, take}
use Rattle.seccomp_profiles.specs.Conditions.{condition_of}
use Rattle.seccomp_profiles.proofs.concerns.Conditions.{lists_of}
use Rattle.seccomp_profiles.proofs.concerns.each_alone.Given as goal

abbrev pub invariant-loop-argument : goal.invariant-loop-argument
invariant-loop-argument l = lists_of l.all.items ≡ map (λ a. condition_of l.arg_len a ∷ []) (take l.argument-index l.args)
