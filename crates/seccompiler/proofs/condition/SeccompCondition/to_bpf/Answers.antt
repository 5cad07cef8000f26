use Rattle.std.proofs.Common.{sym, ◌∙◌, subst, arith}
use lib.Seq.{take_at}
use Rattle.seccompiler.specs.Pieces.{IsConditionCode}
use Rattle.seccompiler.proofs.condition.SeccompCondition.to_bpf.Goals as goal

pub returns : goal.returns
returns c = let same = take_at c.write.new.part _ c.in-Ok.code.len (omega (arith, c.write.auto.part, c.deref_mut.ensures.len)) in
    let meets = subst (IsConditionCode c.args.self.now c.args.offset) (sym same) c.write.ensures.meets in
    record { code = same ∙ c.write.ensures.code; meets = meets; memory = tt }
