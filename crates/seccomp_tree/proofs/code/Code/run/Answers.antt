use Rattle.seccomp_tree.proofs.Common.{arith, refl}
use Rattle.seccomp_tree.proofs.Begun.{numbers_many, single}
use Rattle.seccomp_tree.proofs.Meeting.{alike_length, is_run, run_all_in, run_few}
use Rattle.seccomp_tree.specs.Code.{AreFilled}
use Rattle.seccomp_tree.proofs.code.Code.run.Goals.{After-len}
use Rattle.seccomp_tree.proofs.code.Code.run.Goals as goal

pub filled-requires : goal.filled-requires
filled-requires c = rw (c.deref.ensures.value, c.deref-2.ensures.value, c.in_ok-one.ensures, c.arg_len-size.ensures) record {
  front = c.in_ok-run_steps.ensures.are;
  back = (refl, omega (arith, numbers_many c.args.condition.now.arg_len));
}

-- the steps of the run, and what comes after it
is_filled : (c : After-len) → AreFilled c.args.condition.now.arg_len c.in_ok-run_steps.field-0.items (single c.args.after)
    c.in_ok-steps.steps.items
is_filled c = rw (c.deref.ensures.value, c.deref-2.ensures.value, c.in_ok-one.ensures, c.arg_len-size.ensures) at c.in_ok-steps.ensures

pub argument-requires-clause-are : goal.argument-requires-clause-are
argument-requires-clause-are c =
    rw (c.deref-3.ensures.value, c.arg_len-size.ensures) (is_filled ((goal.at.argument-requires-clause-are c).After-len)).are

pub argument-requires-clause-inside : goal.argument-requires-clause-inside
argument-requires-clause-inside c =
    rw (c.deref-3.ensures.value, c.arg_len-size.ensures) (run_all_in c.in_ok-run_steps.ensures
    (is_filled ((goal.at.argument-requires-clause-inside c).After-len)) c.args.self.now c.requires.after)

pub returns-then-len-gt-BPF_MAX_LEN-clause-large : goal.returns-then-len-gt-BPF_MAX_LEN-clause-large
returns-then-len-gt-BPF_MAX_LEN-clause-large c = λ large.
    let b = (goal.at.returns-then-len-gt-BPF_MAX_LEN-clause-large c).After-len in
    let few = run_few c.in_ok-run_steps.ensures (is_filled b) in
    grind (arith, few, alike_length c.args.condition.now c.args.run.now c.requires.alike, c.len.ensures, c.if-len-gt-BPF_MAX_LEN.true)

pub returns-clause-run : goal.returns-clause-run
returns-clause-run c =
    is_run c.in_ok-run_steps.ensures (is_filled ((goal.at.returns-clause-run c).After-len)) c.requires.some c.requires.alike
    (rw (c.deref-3.ensures.value, c.arg_len-size.ensures, c.arg_index-index.ensures.index) at c.in_ok-argument.ensures)
