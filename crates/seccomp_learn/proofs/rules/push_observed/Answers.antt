use Rattle.std.proofs.Common.{subst, sym, ◌↔◌, ◌⊎◌}
use Rattle.std.proofs.lemmas.List.{take_all, take_more}
use Rattle.std.specs.Prelude.{Any}
use Rattle.seccomp_learn.specs.Observed.{IsAsNamed}
use Rattle.seccomp_learn.specs.Parts.{MeetsSome}
use Rattle.seccomp_learn.proofs.Entries.{observed_more}
use Rattle.seccomp_learn.proofs.rules.push_observed.Goals as goal

pub loop-observation-preserved : goal.loop-observation-preserved
loop-observation-preserved c = λ r.
    let named = IsAsNamed c.args.arch c.args.kept.now r in
    let old = MeetsSome c.args.arch r c.args.rules.now.items in
    subst (λ seen. MeetsSome c.args.arch r c.push_call.new.rules.items ↔ (old ⊎ Any named seen))
    (sym (take_more c.args.observed.now c.loop-observation.observation-index _ c.loop-observation-test.true))
    (observed_more c.args.arch c.args.kept.now r c.args.rules.now.items c.loop-observation.rules.items _ _ _
    (c.loop-observation.invariant r) (c.in_ok-push_call.ensures r))

pub returns : goal.returns
returns c = λ r.
    let named = IsAsNamed c.args.arch c.args.kept.now r in
    let old = MeetsSome c.args.arch r c.args.rules.now.items in
    subst (λ seen. MeetsSome c.args.arch r c.loop-observation.rules.items ↔ (old ⊎ Any named seen))
    (take_all c.loop-observation.observation-index c.args.observed.now c.loop-observation-test.false) (c.loop-observation.invariant r)
