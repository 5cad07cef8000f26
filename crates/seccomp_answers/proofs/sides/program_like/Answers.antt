use Rattle.std.proofs.lemmas.Result.{IfOk-weaker}
use Rattle.seccomp_answers.proofs.sides.Filters.{fitting_stands, linear_stands}
use Rattle.seccomp_answers.proofs.sides.program_like.Goals as goal

pub returns-clause-stands : goal.returns-clause-stands
returns-clause-stands c = λ target. linear_stands target c.args.filter.now c.in-Ok.linear.items c.in-Ok.ensures.compiled

pub returns-2-clause-stands : goal.returns-2-clause-stands
returns-2-clause-stands c =
    IfOk-weaker c.fitting_bpf.result _ _ (λ program is target. fitting_stands target c.args.filter.now program.items is)
    c.fitting_bpf.ensures.fitting
