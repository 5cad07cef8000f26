use Rattle.std.proofs.Common.{◌≡◌, drop}
use Rattle.std.specs.List.{list_any}
use Rattle.std.specs.Prelude.{nat_eq}
use Rattle.seccomp_profiles.specs.declared.types.Argument.{Argument}
use Rattle.seccomp_profiles.proofs.concerns.has_index.Given as goal

abbrev pub invariant-loop-argument : goal.invariant-loop-argument
invariant-loop-argument l =
    list_any (λ (b : Argument). nat_eq b.index l.index) (drop l.argument-index l.args)
    ≡ list_any (λ (b : Argument). nat_eq b.index l.index) l.args
