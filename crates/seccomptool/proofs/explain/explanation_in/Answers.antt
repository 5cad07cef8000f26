use Rattle.std.proofs.Common.{◌≡◌, rules}
use Rattle.seccomptool.specs.Words.{IsOfLayers}
use Rattle.seccomptool.proofs.Common.{Explains, IfErr-weaker, IfOk-weaker, IsUndecided, Layer, List, machine_of, subst, sym, text_of, ℕ}
use Rattle.seccomptool.specs.Causes.{IsUnexplained, of_layers, undecided}
use Rattle.seccomptool.specs.Commands.{ExplainsIn}
use Rattle.seccomptool.proofs.Layers.{one_layer}
use Rattle.seccomptool.proofs.explain.explanation_in.Goals as goal

pub returns-in-len1-clause-explained : goal.returns-in-len1-clause-explained
returns-in-len1-clause-explained c =
    let asked = c.args.asked.now in
    let subject = c.subject-item.result in
    let one = one_layer c.args.layers.now subject c.in-len1.len_at_least c.in-len1.len_below c.subject-item.is in
    IfOk-weaker c.explanation_of.result _ (ExplainsIn asked c.args.layers.now c.args.records.now)
    (λ e is. subst (λ (ls : List Layer). ExplainsIn asked ls c.args.records.now e) (sym one)
    (subst (λ (given : List ℕ). Explains asked.abi asked.reading (text_of subject.filter) given c.args.records.now e)
    c.deref.ensures.value is)) c.explanation_of.ensures.explained

pub returns-in-len1-clause-cause : goal.returns-in-len1-clause-cause
returns-in-len1-clause-cause c =
    let asked = c.args.asked.now in
    let subject = c.subject-item.result in
    let one = one_layer c.args.layers.now subject c.in-len1.len_at_least c.in-len1.len_below c.subject-item.is in
    IfErr-weaker c.explanation_of.result _ (IsUnexplained asked c.args.layers.now)
    (λ e is. undecided subject one
    (subst (λ (given : List ℕ).
    IsUndecided (machine_of asked.abi) asked.reading (text_of subject.filter) given e) c.deref.ensures.value is))
    c.explanation_of.ensures.cause

pub returns-clause-cause : goal.returns-clause-cause
returns-clause-cause c =
    let asked = c.args.asked.now in
    let machine : c.machine.result ≡ machine_of asked.abi = search rules in
    IfErr-weaker c.stack_explanation.result _ (IsUnexplained asked c.args.layers.now)
    (λ e is. of_layers (subst (λ arch. IsOfLayers arch asked.reading c.args.layers.now e) machine is)) c.stack_explanation.ensures.cause
