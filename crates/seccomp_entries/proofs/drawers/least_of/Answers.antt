use Rattle.std.proofs.Common.{ℕ, subst, sym, take}
use Rattle.std.specs.Prelude.{All}
use Rattle.std.proofs.lemmas.List.{take_all, take_more}
use Rattle.std.proofs.lemmas.List.Elements.{All-push}
use Rattle.seccomp_entries.specs.Drawers.{IsFoundBy, MeetsAt}
use Rattle.seccomp_entries.proofs.drawers.least_of.Goals as goal

pub loop-at-preserved : goal.loop-at-preserved
loop-at-preserved c =
    let places = c.args.places.now in
    let i = c.loop-at.at-index in
    let P = λ (k : ℕ). MeetsAt c.args.entries.now c.args.call.now k → IsFoundBy c.lesser-found.result k in
    record {
      met = c.lesser-found.ensures.met;
      old = λ k is. c.lesser-found.ensures.old k (c.loop-at.invariant.old k is);
      own = subst (All P) (sym (take_more places i _ c.loop-at-test.true))
          (All-push P (take i places) _ (λ k d within meets. c.lesser-found.ensures.old _ (c.loop-at.invariant.own k d within meets))
          c.lesser-found.ensures.own);
    }

pub returns-clause-own : goal.returns-clause-own
returns-clause-own c =
    let P = λ (k : ℕ). MeetsAt c.args.entries.now c.args.call.now k → IsFoundBy c.loop-at.found k in
    subst (All P) (take_all c.loop-at.at-index c.args.places.now c.loop-at-test.false) c.loop-at.invariant.own
