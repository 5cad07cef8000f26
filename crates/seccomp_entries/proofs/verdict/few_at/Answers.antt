use Rattle.std.proofs.Common.{List, map, arith}
use Rattle.std.proofs.lemmas.Result.{IfOk-weaker}
use Rattle.seccompiler.specs.Policy.{Rule}
use Rattle.seccomp_entries.proofs.Beside.{covers_less}
use Rattle.seccomp_entries.proofs.verdict.few_at.Goals as goal

pub returns : goal.returns
returns c =
    let own = c.args.own.now in
    let few : List Rule = map (λ q. q.now) c.args.few.now in
    IfOk-weaker c.cover_at.result _ _ (λ cover says.
    covers_less c.args.arch own.number own.conditions few c.args.most c.max.result cover (omega (arith, c.max.ensures)) says)
    c.cover_at.ensures
