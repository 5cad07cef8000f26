use Rattle.std.proofs.Common.{◌≡◌, ◌++◌, ◌∷◌, [], map, take}
use Rattle.seccomp_profiles.specs.Taken.{asked_by, with_parts}
use Rattle.seccomp_profiles.proofs.taken.push_each.Given as goal

abbrev pub invariant-loop-argument : goal.invariant-loop-argument
invariant-loop-argument l = l.all.items ≡ l.initial.all.items
    ++ map (λ args. with_parts l.entry (l.call ∷ []) (asked_by l.number args)) (map (λ a. a ∷ []) (take l.argument-index l.args))
