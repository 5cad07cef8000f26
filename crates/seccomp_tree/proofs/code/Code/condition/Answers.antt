use Rattle.seccomp_tree.proofs.Common.{◌≡◌, rules, sym, ◌∙◌, IfOk-weaker, arith}
use Rattle.seccomp_tree.proofs.Meeting.{met_now, met_by_steps, masked_dword, masked_qword}
use Rattle.seccomp_tree.proofs.code.Code.condition.Goals as goal

pub returns-then-eq : goal.returns-then-eq
returns-then-eq c = let same : c.args.yes ≡ c.args.no = search rules in met_now c.requires.yes (λ r. rw same (grind arith))

pub returns-in-Dword : goal.returns-in-Dword
returns-in-Dword c = masked_dword c.args.condition.now c.in-MaskedEq.mask (sym c.in-Dword.ensures)
    (sym c.operator.ensures ∙ c.in-MaskedEq.is)
    (rw (c.arg_index-index.ensures.index, c.split_value-high_value.ensures) at c.in_ok-yes.ensures)

pub returns-in-MaskedEq : goal.returns-in-MaskedEq
returns-in-MaskedEq c =
    IfOk-weaker c.masked-in-MaskedEq.result _ _
    (λ t k. masked_qword c.args.condition.now c.in-MaskedEq.mask (sym c.arg_len.ensures ∙ c.in_default-arg_len.is)
    (sym c.operator.ensures ∙ c.in-MaskedEq.is)
    (rw (c.arg_index-index.ensures.index, c.split_value-high_value.ensures) at c.in_ok-yes.ensures)
    (rw (c.arg_index-index.ensures.index, c.split_value-high_value.ensures) at k)) c.masked-in-MaskedEq.ensures

pub returns : goal.returns
returns c =
    IfOk-weaker c.argument.result _ _
    (λ t k. met_by_steps c.in_ok-steps.ensures (rw (c.arg_len-2.ensures, c.arg_index.ensures.index, c.deref.ensures.value) at k))
    c.argument.ensures
