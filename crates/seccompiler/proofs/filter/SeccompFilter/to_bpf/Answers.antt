use Rattle.std.proofs.Common.{sym, subst, arith}
use lib.Seq.{take_at}
use Rattle.seccompiler.specs.Compiled.{IsCompiled}
use Rattle.seccompiler.proofs.filter.SeccompFilter.to_bpf.Goals as goal

pub returns-clause-compiled : goal.returns-clause-compiled
returns-clause-compiled c =
    let same = take_at c.write.new.program _ c.in-Ok.program.len (omega (arith, c.write.auto.program, c.deref_mut.ensures.len)) in
    subst (IsCompiled c.args.self.now) (sym same) c.write.ensures.compiled
