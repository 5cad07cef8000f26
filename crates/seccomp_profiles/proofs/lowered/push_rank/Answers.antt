use Rattle.std.proofs.Common.{◌≡◌, arith, length}
use Rattle.seccomp_profiles.specs.Concerns.{IsConcernOf}
use Rattle.seccomp_profiles.proofs.Zipped.{zip_length}
use Rattle.seccomp_profiles.proofs.lowered.Asked.{next_rank, next_said}
use Rattle.seccomp_profiles.proofs.lowered.push_rank.Goals as goal

pub loop-place-init : goal.loop-place-init
loop-place-init c = λ before. before

pub loop-place-preserved : goal.loop-place-preserved
loop-place-preserved c = λ before abi container default own zip. next_said abi container default own c.args.concerns.now c.args.rank
    c.loop-place.place c.index-concerns-place.result _ _ zip c.loop-place-test.true c.index-concerns-place.is c.in_ok-push_of_rank.ensures
    (c.loop-place.invariant before abi container default own zip)

pub returns : goal.returns
returns c = λ before abi container default own zip.
    let long = zip_length (IsConcernOf abi container default) own c.args.concerns.now zip in
    let over = c.loop-place-test.false in
    let whole : c.loop-place.place ≡ length own = omega arith in
    next_rank abi container default own c.args.rank c.loop-place.place _ whole
    (c.loop-place.invariant before abi container default own zip)
