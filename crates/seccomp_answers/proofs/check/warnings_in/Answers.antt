use Rattle.std.proofs.Common.{◌≡◌, ◌+◌, List, [], ◌∷◌, ◌++◌, String, Global, sym, ap, ◌∙◌, subst, append_assoc, length}
use Rattle.std.specs.List.{AllZip}
use Rattle.std.proofs.lemmas.List.Sums.{sum_by_push}
use Rattle.std.proofs.lemmas.Slice.Zip.{all_zipped_more}
use Rattle.seccompiler.specs.JsonTypes.{JsonFilter}
use Rattle.seccomp_warnings.specs.Beside.{AreCodesBeside}
use Rattle.seccomp_answers.specs.Check.{AreWarningsOf, count_of}
use Rattle.seccomp_answers.specs.declared.check.FilterWarnings.{FilterWarnings}
use Rattle.seccomp_answers.proofs.check.warnings_in.Goals as goal

pub loop-name-preserved : goal.loop-name-preserved
loop-name-preserved c =
    let l = c.loop-name in
    let beside = c.beside_of-beside.result in
    let done : List (String Global × JsonFilter) = l.invariant.done in
    let filter = c.in-Some.filter.now in
    let e : String Global × JsonFilter = (c.in-Some.name.now, filter) in
    let warned = c.in_ok-warned.warned in
    let own : FilterWarnings = record { name = c.in_ok-name.name; warned = warned } in
    let are : AreWarningsOf c.args.target c.args.allowed.now beside e own = record {
      name = c.in_ok-name.ensures.cases;
      codes = c.deref.result.now;
      are_codes = subst (AreCodesBeside c.args.allowed.now beside filter) (sym c.deref.ensures.value) c.in_ok-codes.ensures;
      warnings = c.in_ok-warned.ensures.warnings;
    } in
    let counted = λ (o : FilterWarnings). length o.warned.of_part.warnings.items + length o.warned.evasions.items in
    let lengths : c.len.result + c.len-in-loop-name.result ≡ counted own =
    ap (λ n. n + c.len-in-loop-name.result) (c.len.ensures ∙ warned.of_part.warnings.ok.0)
    ∙ ap (λ n. length warned.of_part.warnings.items + n) (c.len-in-loop-name.ensures ∙ warned.evasions.ok.0) in
    record {
      done = done ++ e ∷ [];
      whole = l.invariant.whole ∙ ap (λ (es : List (String Global × JsonFilter)). done ++ es) c.in-Some.ensures.steps
          ∙ sym (append_assoc done (e ∷ []) c.next.new.self);
      each = subst (AllZip (AreWarningsOf c.args.target c.args.allowed.now beside) (done ++ e ∷ [])) (sym c.in_ok-push.ensures.items)
          (all_zipped_more (AreWarningsOf c.args.target c.args.allowed.now beside) done l.all.items e own l.invariant.each are);
      count_is = c.in-Some-sum_of.ensures ∙ ap (λ n. n + (c.len.result + c.len-in-loop-name.result)) l.invariant.count_is
          ∙ ap (λ n. count_of l.all.items + n) lengths ∙ sym (sum_by_push counted l.all.items own)
          ∙ ap count_of (sym c.in_ok-push.ensures.items);
    }
