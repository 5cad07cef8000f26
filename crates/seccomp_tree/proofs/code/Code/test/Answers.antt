use Rattle.seccomp_tree.proofs.Common.{rules, ◌≡◌, ◌-◌, ◌∷◌, ap, ◌∙◌, sock_filter, At}
use Rattle.seccomp_tree.proofs.Runs.{code_of, tested}
use Rattle.seccomp_tree.proofs.code.Code.test.Goals as goal

pub returns : goal.returns
returns c =
    let code = c.reach-2.new.self in
    let i : sock_filter = record { code = c.match-test.bpf_jump; jt = c.over.result; jf = c.over-2.result; k = c.args.k } in
    let is : c.match-test.bpf_jump ≡ code_of c.args.test = search rules in
    tested c.args.test i is c.over.ensures.over c.over-2.ensures.over c.in_ok-yes.ensures c.in_ok-no.ensures
    (c.in_ok-push.ensures ∙ ap (λ x. x ∷ code) c.bpf_jump.ensures) (ap (λ n. At (n - 1)) c.len.ensures)
