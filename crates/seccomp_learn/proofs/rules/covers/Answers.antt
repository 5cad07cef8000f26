use Rattle.std.proofs.Common.{◌≡◌, subst, sym}
use Rattle.seccompiler.specs.Equality.{rule_decides}
use Rattle.seccompiler.specs.JsonEntries.{MeetsEntry}
use Rattle.seccomp_learn.proofs.rules.covers.Goals as goal

pub returns-then-eq : goal.returns-then-eq
returns-then-eq c = λ yes arch r meets.
    let same : c.args.rule.now ≡ c.args.other.now = (rule_decides c.args.rule.now c.args.other.now).0 (sym c.if-eq.ensures) in
    subst (MeetsEntry arch r) (sym same) meets
