use Rattle.seccomp_tree.proofs.{Common.and_zero_r, Common.nat_tests, Common.word_at, Common.arith, Meeting.masked_some, Meeting.met_now}
use Rattle.seccomp_tree.proofs.code.Code.masked.Goals as goal

-- a mask of nothing is met by each word
pub returns-then-mask-eq0 : goal.returns-then-mask-eq0
returns-then-mask-eq0 c = met_now c.requires.yes
    (λ r. rw (c.if-mask-eq0.true, and_zero_r (word_at r c.args.byte), and_zero_r c.args.value) (grind (arith, nat_tests)))

pub returns : goal.returns
returns c = rw c.len.ensures (masked_some c.args.byte c.args.mask c.args.value c.requires.inside_record (omega arith)
    c.in_ok-test.ensures (cc (c.in_ok-push-2.ensures, c.in_ok-push.ensures, c.bpf_stmt.ensures, c.bpf_stmt-2.ensures)))
