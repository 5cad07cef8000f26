use Rattle.seccomptool.proofs.Common.{◌≡◌, IfErr-weaker, IfOk, List, Made, Option, false, subst, ℕ}
use Rattle.std.proofs.Common.{Bor}
use Rattle.seccomptool.specs.Commands.{IsCheck, IsCompiled, IsParted, IsPlain, IsShown}
use Rattle.seccomptool.proofs.Layers.{one_layer}
use Rattle.seccomptool.proofs.perform.perform.Goals as goal

pub returns-in-len1-clause-answers : goal.returns-in-len1-clause-answers
returns-in-len1-clause-answers g c =
    let one = one_layer c.args.inputs.now c.one-item.result c.in-len1.len_at_least c.in-len1.len_below c.one-item.is in
    let result = c.check_made.result in
    rw (c.in-Check.is, one) (subst (λ (given : List ℕ). IfOk result (λ (made : Made). IsCheck c.in-Check.asked given made.verdict
    × (made.is_cut ≡ false))) c.deref.ensures.value c.check_made.ensures.made)

pub returns-in-len1-inputs-clause-answers : goal.returns-in-len1-inputs-clause-answers
returns-in-len1-inputs-clause-answers g c =
    let item = c.one-item-then-inputs-lt2-2 in
    let one = one_layer c.args.inputs.now item.result c.in-len1-inputs.len_at_least c.in-len1-inputs.len_below item.is in
    let result = c.compile_made.result in
    rw (c.in-Compile.is, one) (subst (λ (given : List ℕ). IfOk result (λ (made : Made).
    IsCompiled c.in-Compile.asked given made.text.items × IsPlain made)) c.deref-in-Compile.ensures.value c.compile_made.ensures.made)

pub returns-in-len1-inputs-2-clause-answers : goal.returns-in-len1-inputs-2-clause-answers
returns-in-len1-inputs-2-clause-answers g c =
    let item = c.one-item-then-inputs-lt2-3 in
    let one = one_layer c.args.inputs.now item.result c.in-len1-inputs-2.len_at_least c.in-len1-inputs-2.len_below item.is in
    let result = c.show_made.result in
    rw (c.in-Show.is, one) (subst (λ (given : List ℕ). IfOk result (λ (made : Made).
    IsShown c.in-Show.asked given × IsPlain made)) c.deref-in-Show.ensures.value c.show_made.ensures.made)

pub returns-in-Explain-clause-fails : goal.returns-in-Explain-clause-fails
returns-in-Explain-clause-fails g c =
    let layers = c.parted.result.0.now in
    let bytes = c.parted.result.1.now in
    let Is = λ (file : Option (Bor (List ℕ))). IsParted file c.args.inputs.now layers bytes in
    let parted = subst Is c.file.ensures c.parted.ensures in
    rw c.in-Explain.is (IfErr-weaker c.explain_made.result _ _ (λ e is. (layers, bytes, parted, is)) c.explain_made.ensures.cause)
