use Rattle.std.proofs.Common.{sym, subst, arith}
use lib.Seq.{take_at}
use Rattle.seccompiler.specs.Pieces.{IsRuleCode}
use Rattle.seccompiler.proofs.rule.SeccompRule.to_bpf.Goals as goal

pub returns-clause-code : goal.returns-clause-code
returns-clause-code c =
    let same = take_at c.write.new.part _ c.in-Ok.code.len (omega (arith, c.write.auto.part, c.deref_mut.ensures.len)) in
    subst (IsRuleCode c.args.self.now) (sym same) c.write.ensures.code
