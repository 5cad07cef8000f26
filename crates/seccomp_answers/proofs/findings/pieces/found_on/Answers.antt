use Rattle.std.proofs.Common.{[], ◌≡◌, ◌∷◌, ◌++◌, ◌∙◌, List, ap, get_or, subst, sym, take}
use Rattle.std.proofs.lemmas.List.{take_all, take_more}
use Rattle.std.proofs.lemmas.Result.{IfOk-weaker}
use Rattle.std.specs.List.{filter}
use Rattle.seccomp_answers.specs.Findings.{AreAllFound, AreReturned, is_kept}
use Rattle.seccomp_answers.specs.declared.findings.Finding.{Finding}
use Rattle.seccomp_answers.specs.declared.findings.Part.TheVariants.{Named}
use Rattle.seccomp_answers.proofs.findings.CutParts.{both_found, none_found}
use Rattle.seccomp_answers.proofs.findings.pieces.found_on.Goals as goal

pub loop-part-init : goal.loop-part-init
loop-part-init g c =
    let target = c.args.terms.target in
    let relation = c.args.terms.relation in
    let words = AreReturned c.args.new.now c.args.old.now in
    subst (AreAllFound target relation words []) (sym c.new-all.ensures.items) (none_found target relation words)

pub loop-part-preserved : goal.loop-part-preserved
loop-part-preserved g c =
    let l = c.loop-part in
    let target = c.args.terms.target in
    let relation = c.args.terms.relation in
    let words = AreReturned c.args.new.now c.args.old.now in
    let parts = c.args.parts.now in
    let part = get_or parts l.part-index (Named 0) in
    let own = c.in_ok-pieces.pieces.items in
    let now = c.extend_from_slice.new.self.items in
    let front = take l.part-index parts in
    let both = both_found target relation words front (part ∷ []) l.all.items own l.invariant c.in_ok-pieces.ensures in
    let are : now ≡ l.all.items ++ own = c.in_ok-extend_from_slice.ensures.items
    ∙ ap (λ (more : List Finding). l.all.items ++ more) c.deref-in-loop-part.ensures.value in
    subst (λ ps. AreAllFound target relation words ps now) (sym (take_more parts l.part-index (Named 0) c.loop-part-test.true))
    (subst (AreAllFound target relation words (front ++ part ∷ [])) (sym are) both)

pub returns : goal.returns
returns g c =
    let l = c.loop-part in
    let words = AreReturned c.args.new.now c.args.old.now in
    let are = subst (λ parts. AreAllFound c.args.terms.target c.args.terms.relation words parts l.all.items)
    (take_all l.part-index c.args.parts.now c.loop-part-test.false) l.invariant in
    IfOk-weaker c.kept.result _ _ (λ findings is. record {
      all = l.all.items;
      are = are;
      kept = is ∙ ap (λ (all : List Finding). filter is_kept all) c.deref-2.ensures.value;
    }) c.kept.ensures
