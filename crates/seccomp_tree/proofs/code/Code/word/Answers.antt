use Rattle.seccomp_tree.proofs.Common.{arith, length, load, ◌-◌, ◌^◌, ◌≤◌, ℕ, ◌∙◌, ◌∷◌, At, ap}
use Rattle.seccomp_tree.proofs.{Begun.are_in_below, Begun.not_none, Trees.least_power, Trees.word_more, Trees.word_one}
use Rattle.seccomp_tree.proofs.code.Code.word.Goals.{After-next_power_of_two}
use Rattle.seccomp_tree.proofs.code.Code.word.Goals as goal

pub tree-requires-clause-inside : goal.tree-requires-clause-inside
tree-requires-clause-inside c = are_in_below _ (2 ^ 32) _ c.requires.are c.requires.inside

least : (c : After-next_power_of_two) → (k : ℕ) → length c.args.steps.now ≤ 2 ^ k → c.next_power_of_two.result ≤ 2 ^ k
least c k le =
    let h = c.next_power_of_two.ensures in
    least_power (length c.args.steps.now) c.next_power_of_two.result h.power.0 k h.power.1 h.upper_bound le

pub returns-then-steps-eq1 : goal.returns-then-steps-eq1
returns-then-steps-eq1 c =
    word_one c.args.steps.now c.next_power_of_two.result c.args.byte c.if-steps-eq1.true
    (least ((goal.at.returns-then-steps-eq1 c).After-next_power_of_two)) c.in_ok-tested.ensures

pub returns : goal.returns
returns c =
    let written = c.in_ok-push.ensures ∙ ap (λ i. i ∷ c.tree.new.self) (c.bpf_stmt.ensures ∙ ap load c.from.ensures) in
    let some = not_none (2 ^ 32) c.args.steps.now c.requires.are (omega arith) in
    word_more c.next_power_of_two.result c.args.byte c.requires.inside_record (omega (arith, some))
    (least ((goal.at.returns c).After-next_power_of_two)) c.in_ok-tested.ensures written (ap (λ n. At (n - 1)) c.len.ensures)
