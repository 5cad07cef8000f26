use Rattle.seccomptool.proofs.Common.{◌%◌, ◌∙◌, ◌≡◌, Calls, IsRecordOn, IsTrue, List, Log, One, Option, Records, Vec, ap}
use Rattle.seccomptool.proofs.Common.{err_from_is_err_and, length, nat_lt, refl, subst, sym, ℕ}
use Rattle.std.proofs.Common.{Bor, Global}
use Rattle.std.proofs.lemmas.Bool.{false≢true, lt-ltb, ltb-true}
use Rattle.seccomptool.specs.Commands.{EndsInside, ExplainsIn, IsExplainedIn, OnRecordsOf, records_in}
use Rattle.seccomptool.specs.Causes.{uncalled}
use Rattle.seccomptool.proofs.explain.explain_made.Goals as goal
use Rattle.seccomptool.proofs.explain.explain_made.Goals.{in-One+in_ok-record-in-One, in-Records+in_ok-records-in-Records}
use Rattle.seccomptool.proofs.explain.explain_made.Goals.{in-Log+in_ok-records-in-Log}

-- The records, how many bytes stand behind them, who made the calls, and the lines that aren't understood.
abbrev Parts : Type 0
Parts = Vec ℕ Global × ℕ × Vec (Bor (List ℕ) × Bor (List ℕ)) Global × ℕ × Option ℕ

pub returns-clause-made : goal.returns-clause-made
returns-clause-made c =
    let asked = c.args.asked.now in
    let layers = c.args.layers.now in
    let bytes = c.args.bytes.now in
    let items = c.match-asked.records.0.items in
    let e = c.in_ok-explanation.explanation in
    let own = c.in_ok-explanation.ensures.explained in
    let cut : c.as_chunks.result.0.now ≡ records_in items = c.as_chunks.ensures.front ∙ ap records_in c.deref.ensures.value in
    let explained : IsExplainedIn asked layers (records_in items) =
    (e, subst (λ (rs : List (List ℕ)). ExplainsIn asked layers rs e) cut own) in
    let On = λ (calls : Calls). OnRecordsOf calls asked.abi bytes (IsExplainedIn asked layers) in
    let on : On asked.calls = elim c.match-asked.branch [
      | in-One+in_ok-record-in-One w ↦
          let call = w.in-One.call in
          subst On (sym w.in-One.is) (
            items,
            subst (λ (parts : Parts). IsRecordOn asked.abi call.name.now call.arguments parts.0.items) (sym w.records-is)
                w.in_ok-record-in-One.ensures.recorded,
            explained,
          )
      | in-Records+in_ok-records-in-Records w ↦
          let same : items ≡ bytes = ap (λ (parts : Parts). parts.0.items) w.records-is ∙ w.in_ok-records-in-Records.ensures.items in
          subst On (sym w.in-Records.is) (subst (λ (r : List ℕ). IsExplainedIn asked layers (records_in r)) same explained)
      | in-Log+in_ok-records-in-Log w ↦ subst On (sym w.in-Log.is) (records_in items, explained)
    ] in
    let rest = c.match-asked.records.1 in
    let Cut = λ (calls : Calls) (r : ℕ).
    (IsTrue (nat_lt 0 r) → EndsInside calls bytes) × (EndsInside calls bytes → IsTrue (nat_lt 0 r)) in
    let cut_is : Cut asked.calls rest = elim c.match-asked.branch [
      | in-One+in_ok-record-in-One w ↦
          subst (λ (calls : Calls). Cut calls rest) (sym w.in-One.is)
          (subst (λ (parts : Parts). Cut (One w.in-One.call) parts.1) (sym w.records-is) (λ yes. false≢true yes, λ none. absurd none))
      | in-Records+in_ok-records-in-Records w ↦
          let own : rest ≡ length bytes % 64 = ap (λ (parts : Parts). parts.1) w.records-is in
          subst (λ (calls : Calls). Cut calls rest) (sym w.in-Records.is)
          (subst (Cut (Records w.in-Records.field-0)) (sym own) (
            λ yes. ltb-true 0 (length bytes % 64) yes,
            λ more. lt-ltb 0 (length
                bytes % 64) more,
          ))
      | in-Log+in_ok-records-in-Log w ↦
          subst (λ (calls : Calls). Cut calls rest) (sym w.in-Log.is)
          (subst (λ (parts : Parts). Cut (Log w.in-Log.field-0) parts.1) (sym w.records-is) (λ yes. false≢true yes, λ none. absurd none))
    ] in
    (on, refl, cut_is)

pub returns-in_err-record-in-One-clause-cause : goal.returns-in_err-record-in-One-clause-cause
returns-in_err-record-in-One-clause-cause c =
    let error = err_from_is_err_and c.from_residual.result c.from_residual.ensures.1 in
    rw (error.1, error.2) (uncalled c.in-One.call c.in-One.is c.in_err-record-in-One.ensures.refused)

pub returns-in_err-explanation-clause-cause : goal.returns-in_err-explanation-clause-cause
returns-in_err-explanation-clause-cause c =
    let error = err_from_is_err_and c.from_residual-in_err-explanation.result c.from_residual-in_err-explanation.ensures.1 in
    rw (error.1, error.2) c.in_err-explanation.ensures.cause
