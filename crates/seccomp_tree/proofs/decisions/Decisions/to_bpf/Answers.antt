use Rattle.seccomp_tree.proofs.Common.{◌∙◌, ◌∷◌, ap, arith, nat_tests, load, audit_word, DecisionSet}
use Rattle.seccomp_tree.proofs.Theorem.{IsWritten, is_written}
use Rattle.seccomp_tree.proofs.decisions.Decisions.to_bpf.Goals.{After-len}
use Rattle.seccomp_tree.proofs.decisions.Decisions.to_bpf.Goals as goal

written : (c : After-len) → IsWritten c.args.self.now c.into_program-program.result.items
written c =
    let arch = c.get_audit_value-arch.ensures ∙ ap (λ (x : DecisionSet). audit_word x.target_arch) c.self.view_is in
    is_written (rw c.in_ok-code.ensures at c.in_ok-steps.ensures.steps) (rw c.deref.ensures.value at c.in_ok-calls.ensures)
    (rw arch at c.in_ok-test.ensures) (c.into_program-program.ensures.program ∙ c.in_ok-push.ensures
    ∙ ap (λ i. i ∷ c.test.new.self) (c.bpf_stmt.ensures ∙ ap load c.from.ensures))

pub returns-then-len-gt-BPF_MAX_LEN-clause-large : goal.returns-then-len-gt-BPF_MAX_LEN-clause-large
returns-then-len-gt-BPF_MAX_LEN-clause-large c = λ is starts ranges.
    let h = written ((goal.at.returns-then-len-gt-BPF_MAX_LEN-clause-large c).After-len) in
    grind (arith, nat_tests, h.short starts ranges, c.len.ensures, c.if-len-gt-BPF_MAX_LEN.true)

pub returns-clause-program : goal.returns-clause-program
returns-clause-program c = (written ((goal.at.returns-clause-program c).After-len)).program c.into_program-program.ensures.sound
    (grind (arith, nat_tests, c.len.ensures, c.if-len-gt-BPF_MAX_LEN.false))
