use Rattle.seccomptool.proofs.Common.{◌≡◌, Bool, List, false, found_in, rules, string_bytes, subst, sym, ℕ}
use Rattle.seccomptool.specs.Learn.{IsWrittenPolicy, Unless}
use Rattle.seccomptool.proofs.learn.views_of.Goals as goal

pub returns-then-not-asked-clause-made : goal.returns-then-not-asked-clause-made
returns-then-not-asked-clause-made c =
    let asked = c.args.asked.now in
    let learned = c.args.learned.now in
    let off : asked.json ≡ false = search rules in
    let same : c.noting.result.text.items ≡ c.in_ok-text.text.items = rw c.noting.ensures.text in (
      (c.noting.ensures.verdict, c.noting.ensures.whole),
      subst (λ (b : Bool). Unless b (IsWrittenPolicy asked (found_in learned.2) (string_bytes learned.0) learned.1.learned.json
          c.noting.result.text.items)) (sym off)
          (subst (λ (bytes : List ℕ). IsWrittenPolicy asked (found_in learned.2) (string_bytes learned.0) learned.1.learned.json bytes)
          (sym same) c.in_ok-text.ensures.policy),
    )
