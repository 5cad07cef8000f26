use Rattle.std.proofs.Common.{rules, sym, subst, ◌∙◌, [], ◌∷◌, ⊎_elim}
use Rattle.seccompiler.specs.Machine.{AreInRange}
use Rattle.seccompiler.proofs.Closed.{ranges_from}
use Rattle.seccompiler.proofs.condition.write_qword.Goals as goal

pub copy_from_slice-requires : goal.copy_from_slice-requires
copy_from_slice-requires c = rw c.in-Eq.is at c.requires.room

pub copy_from_slice-requires-in-Ne : goal.copy_from_slice-requires-in-Ne
copy_from_slice-requires-in-Ne c = rw c.in-Ne.is at c.requires.room

pub copy_from_slice-requires-in-Ge : goal.copy_from_slice-requires-in-Ge
copy_from_slice-requires-in-Ge c = ⊎_elim (λ is. rw is at c.requires.room) (λ is. rw is at c.requires.room) c.in-Ge.is

pub copy_from_slice-requires-in-Le : goal.copy_from_slice-requires-in-Le
copy_from_slice-requires-in-Le c = ⊎_elim (λ is. rw is at c.requires.room) (λ is. rw is at c.requires.room) c.in-Le.is

pub copy_from_slice-requires-in-MaskedEq : goal.copy_from_slice-requires-in-MaskedEq
copy_from_slice-requires-in-MaskedEq c = rw c.in-MaskedEq.is at c.requires.room

pub returns-in-Eq-clause-code : goal.returns-in-Eq-clause-code
returns-in-Eq-clause-code c = let test = rw c.in-Eq.is at c.low_test-test.ensures.test in rw c.in-Eq.is
    (c.copy_from_slice.ensures.after ∙ λ i. c.bpf_stmt-high.ensures i ∷ c.bpf_jump-equal_or_fail.ensures i ∷ c.bpf_stmt-low.ensures i
    ∷ test i ∷ [])

pub returns-in-Ne-clause-code : goal.returns-in-Ne-clause-code
returns-in-Ne-clause-code c = let test = rw c.in-Ne.is at c.low_test-test.ensures.test in rw c.in-Ne.is
    (c.copy_from_slice-in-Ne.ensures.after ∙ λ i. c.bpf_stmt-high.ensures i ∷ c.bpf_jump-equal_or_done.ensures i ∷ c.bpf_stmt-low.ensures i
    ∷ test i ∷ [])

pub returns-in-Ge-clause-code : goal.returns-in-Ge-clause-code
returns-in-Ge-clause-code c = let code = c.copy_from_slice-in-Ge.ensures.after ∙ (λ i. c.bpf_stmt-high.ensures i
    ∷ c.bpf_jump-greater_or_on.ensures i ∷ c.bpf_jump-equal_or_fail.ensures i ∷ c.bpf_stmt-low.ensures i
    ∷ c.low_test-test.ensures.test i ∷ []) in
    ⊎_elim (λ is. rw is (rw is at code)) (λ is. rw is (rw is at code)) c.in-Ge.is

pub returns-in-Le-clause-code : goal.returns-in-Le-clause-code
returns-in-Le-clause-code c = let code = c.copy_from_slice-in-Le.ensures.after ∙ (λ i. c.bpf_stmt-high.ensures i
    ∷ c.bpf_jump-greater_fails.ensures i ∷ c.bpf_jump-equal_or_done.ensures i ∷ c.bpf_stmt-low.ensures i
    ∷ c.low_test-test.ensures.test i ∷ []) in
    ⊎_elim (λ is. rw is (rw is at code)) (λ is. rw is (rw is at code)) c.in-Le.is

pub returns-in-MaskedEq-clause-code : goal.returns-in-MaskedEq-clause-code
returns-in-MaskedEq-clause-code c = let test = rw c.in-MaskedEq.is at c.low_test-test.ensures.test in
    let and = rw c.low_half.ensures at c.bpf_stmt-and.ensures in rw c.in-MaskedEq.is
    (c.copy_from_slice-in-MaskedEq.ensures.after ∙ λ i. c.bpf_stmt-high.ensures i ∷ c.bpf_stmt-high_and.ensures i
    ∷ c.bpf_jump-high_test.ensures i ∷ c.bpf_stmt-low.ensures i ∷ and i ∷ test i ∷ [])

pub returns-in-Eq-clause-ranges : goal.returns-in-Eq-clause-ranges
returns-in-Eq-clause-ranges c = subst AreInRange (sym c.copy_from_slice.ensures.after) (ranges_from _ (search rules))

pub returns-in-Ne-clause-ranges : goal.returns-in-Ne-clause-ranges
returns-in-Ne-clause-ranges c = subst AreInRange (sym c.copy_from_slice-in-Ne.ensures.after) (ranges_from _ (search rules))

pub returns-in-Ge-clause-ranges : goal.returns-in-Ge-clause-ranges
returns-in-Ge-clause-ranges c = subst AreInRange (sym c.copy_from_slice-in-Ge.ensures.after) (ranges_from _ (search rules))

pub returns-in-Le-clause-ranges : goal.returns-in-Le-clause-ranges
returns-in-Le-clause-ranges c = subst AreInRange (sym c.copy_from_slice-in-Le.ensures.after) (ranges_from _ (search rules))

pub returns-in-MaskedEq-clause-ranges : goal.returns-in-MaskedEq-clause-ranges
returns-in-MaskedEq-clause-ranges c = subst AreInRange (sym c.copy_from_slice-in-MaskedEq.ensures.after) (ranges_from _ (search rules))
