use Rattle.std.proofs.Common.{◌≡◌, ◌+◌, arith, subst, sym}
use Rattle.seccomp_profiles.specs.Concerns.{AreAskedTo, AreLoweredTo}
use Rattle.seccomp_profiles.proofs.lowered.Asked.{none_asked}
use Rattle.seccomp_profiles.proofs.lowered.entries_of.Goals as goal

pub loop-rank-init : goal.loop-rank-init
loop-rank-init c = λ abi container default own zip.
    subst (AreAskedTo abi container default own 0 0) (sym c.new-all.ensures.items) (none_asked abi container default own)

pub loop-rank-preserved : goal.loop-rank-preserved
loop-rank-preserved c =
    let l = c.loop-rank in
    subst (λ cs. AreLoweredTo cs (l.rank + 1) c.push_rank.new.all.items) c.as_slice.ensures.value
    (c.in_ok-push_rank.ensures (subst (λ cs. AreLoweredTo cs l.rank l.all.items) (sym c.as_slice.ensures.value) l.invariant))

pub returns : goal.returns
returns c =
    let end : c.loop-rank.rank ≡ 9 = omega arith in
    subst (λ s. AreLoweredTo c.in_ok-concerns.concerns.items s c.loop-rank.all.items) end c.loop-rank.invariant c.args.abi
    c.args.container.now c.args.default c.args.entries.now c.in_ok-concerns.ensures
