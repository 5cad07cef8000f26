use Rattle.std.proofs.Common.{[], ◌∷◌, ◌++◌, append-nil, get_or, sym, ap, ◌∙◌, refl}
use Rattle.std.specs.List.{concat}
use Rattle.std.proofs.lemmas.List.{get_or_default}
use Rattle.std.proofs.lemmas.List.Elements.{all_zip_more}
use Rattle.std.proofs.lemmas.List.Folds.{concat-append}
use Rattle.seccompc.specs.Lines.{IsLine, line_of}
use Rattle.seccompc.proofs.record_text.lines.Goals as goal

pub records-preserved : goal.records-preserved
records-preserved c =
    let so_far = c.records.invariant in
    let records = c.args.records.now in
    let call = get_or records c.records.record-index [] in
    let line = line_of c.run.result.word c.run.result.steps in
    record {
      lines = so_far.lines ++ line ∷ [];
      each = all_zip_more (IsLine c.args.program.now) records so_far.lines c.records.record-index call line c.records-test.true
          (get_or_default records c.records.record-index [] call c.records-test.true) so_far.each
          (record { word = c.run.result.word; steps = c.run.result.steps; ends = c.run.ensures.ends; text = refl });
      joined = c.in_ok-push_line.ensures ∙ ap (λ text. text ++ line) so_far.joined
          ∙ sym (concat-append so_far.lines (line ∷ []) ∙ ap (λ text. concat so_far.lines ++ text) (append-nil line));
    }
