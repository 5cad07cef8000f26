use Rattle.std.proofs.Common.{◌≡◌, rules}
use Rattle.seccompiler.specs.ConditionCode.{condition_code}
use Rattle.seccompiler.proofs.condition.ConditionCode.{written_meets}
use Rattle.seccompiler.proofs.condition.SeccompCondition.write.Goals as goal

pub returns-in-Dword : goal.returns-in-Dword
returns-in-Dword c = let code : c.write_dword.new.part ≡ condition_code c.args.self.now c.args.offset = search rules in
    record { code = code; meets = written_meets c.self.view_is c.self.invariant.0 code c.write_dword.ensures.ranges }

pub returns-in-Qword : goal.returns-in-Qword
returns-in-Qword c = let code : c.write_qword.new.part ≡ condition_code c.args.self.now c.args.offset = search rules in
    record { code = code; meets = written_meets c.self.view_is c.self.invariant.0 code c.write_qword.ensures.ranges }
