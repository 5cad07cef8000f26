use Rattle.std.proofs.Common.{◌∙◌, ◌∷◌, [], ap, map, sym}
use Rattle.std.proofs.lemmas.Bool.{true≢false}
use Rattle.std.proofs.lemmas.List.{take_all}
use Rattle.std.proofs.lemmas.Result.{IfOk-weaker}
use Rattle.seccomp_profiles.specs.Concerns.{apart, together}
use Rattle.seccomp_profiles.specs.Conditions.{condition_of}
use Rattle.seccomp_profiles.proofs.concerns.Conditions.{lists_of}
use Rattle.std.proofs.Common.{arith}
use Rattle.std.proofs.lemmas.Grind.{common_steps}
use Rattle.seccomp_profiles.proofs.concerns.alternatives_of.Goals as goal

pub returns-then-share_argument : goal.returns-then-share_argument
returns-then-share_argument c = IfOk-weaker c.each_alone.result _ _
    (λ all is. apart (c.share_argument.ensures.0 c.if-share_argument.true) is) c.each_alone.ensures

pub returns : goal.returns
returns c = together (λ share. true≢false (sym (c.share_argument.ensures.1 share) ∙ c.if-share_argument.false))
    (ap lists_of c.in_ok-vec.ensures.items ∙ ap (λ cs. cs ∷ []) (c.loop-argument.invariant
    ∙ ap (map (condition_of c.args.arg_len)) (take_all c.loop-argument.argument-index c.args.args.now c.loop-argument-test.false)))

pub loop-argument-preserved : goal.loop-argument-preserved
loop-argument-preserved c = grind (arith, common_steps)
