use Rattle.std.proofs.Common.{rules, sym, subst, ◌∙◌, [], ◌∷◌}
use Rattle.seccompiler.specs.Machine.{AreInRange}
use Rattle.seccompiler.proofs.Closed.{ranges_from}
use Rattle.seccompiler.proofs.condition.write_dword.Goals as goal

pub returns-in-MaskedEq-clause-code : goal.returns-in-MaskedEq-clause-code
returns-in-MaskedEq-clause-code c = let test = rw c.in-MaskedEq.is at c.low_test-test.ensures.test in
    let and = rw c.low_half.ensures at c.bpf_stmt.ensures in
    rw c.in-MaskedEq.is (c.copy_from_slice.ensures.after ∙ λ i. c.bpf_stmt-load.ensures i ∷ and i ∷ test i ∷ [])

pub returns-in-MaskedEq-clause-ranges : goal.returns-in-MaskedEq-clause-ranges
returns-in-MaskedEq-clause-ranges c = subst AreInRange (sym c.copy_from_slice.ensures.after) (ranges_from _ (search rules))

pub returns-in_default-clause-ranges : goal.returns-in_default-clause-ranges
returns-in_default-clause-ranges c = subst AreInRange (sym c.copy_from_slice-in_default.ensures.after) (ranges_from _ (search rules))
