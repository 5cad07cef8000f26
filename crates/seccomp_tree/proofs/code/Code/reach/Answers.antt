use Rattle.seccomp_tree.proofs.Runs.{tail_written, tail_whole, grows_not, grows_one, runs_at, reached}
use Rattle.seccomp_tree.proofs.Common.{length-reverse, stand_in, arith, IsReached, reverse, subst, ◌≤◌}
use Rattle.seccomp_tree.proofs.code.Code.reach.Goals.{After-len-len}
use Rattle.seccomp_tree.proofs.Common.{tail_at, length, rules, refl, sym, ◌+◌, ◌<◌, ◌∙◌, ◌∷◌, ◌≡◌, At, ap, ℕ}
use Rattle.seccomp_tree.proofs.code.Code.reach.Goals as goal

pub returns-then-over-le-REACH : goal.returns-then-over-le-REACH
returns-then-over-le-REACH c = rw c.in-At.is record {
  grows = grows_not c.args.self.now 1;
  inside = omega (arith, c.over.ensures.over);
  near = omega (arith, c.over.ensures.over);
  leads = λ r a w n small h. runs_at c.in-At.place refl h;
}

far : (c : After-len-len) → (m : ℕ) → c.args.target ≡ At m → m + 255 < length c.args.self.now
far c m is = search rules

same : (c : After-len-len) → c.match-target.target ≡ c.args.target
same c = search rules

pub returns-then-eq : goal.returns-then-eq
returns-then-eq c =
    let b = (goal.at.returns-then-eq c).After-len-len in
    let place = c.index-place.result.now in
    let is : c.index.result.now ≡ stand_in c.args.target place =
    let equal : c.index.result.now ≡ c.stand_in.result = search rules in rw (← same b) (equal ∙ c.stand_in.ensures.is) in
    let inside : place < length c.args.self.now = omega (arith, c.if-len-place.false, c.len-len.ensures) in
    let near : length c.args.self.now ≤ place + 255 = omega (arith, c.if-over-gt-REACH.false, c.over-else-len-place.ensures.over) in
    let at = tail_written c.self-2.inside.back.items place c.index.result.now
    (omega (arith, ap length c.self-2.view_is, length-reverse c.self-2.inside.back.items)) c.index.ensures in
    reached place at.0 (grows_not c.args.self.now 1) (far b) inside near
    (ap (λ l. tail_at l place) (sym c.self-2.view_is) ∙ at.1 ∙ ap (λ i. i ∷ at.0) is)

pub returns : goal.returns
returns c =
    let b = (goal.at.returns c).After-len-len in
    let written : reverse c.self-3.inside.back.items ≡ stand_in c.args.target c.len-len.result ∷ c.args.self.now =
    c.self-3.view_is ∙ c.in_ok-push.ensures ∙ ap (λ i. i ∷ c.args.self.now) (rw (← same b) c.stand_in-2.ensures.is) in
    subst (λ x. IsReached c.args.self.now c.args.target c.len-len.result x) (sym written)
    (reached c.len-len.result c.args.self.now (grows_one _ _) (far b) (omega (arith, c.len-len.ensures))
    (omega (arith, c.len-len.ensures)) (tail_whole _ c.len-len.result (omega (arith, c.len-len.ensures))))
