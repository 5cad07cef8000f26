use Rattle.std.proofs.Common.{Vec, Global, string_bytes, option_map, rules, None, refl, ap, ◌∙◌, ◌≡◌, ◌||◌, arith}
use Rattle.std.specs.Ordering.{int_eq}
use Rattle.std.proofs.lemmas.List.Elements.{All-nil}
use Rattle.std.proofs.lemmas.Result.{err_from_is_err_and}
use Rattle.seccompiler.specs.Architecture.{table_of}
use Rattle.seccompiler.specs.SyscallTable.{number_of}
use Rattle.seccompiler.specs.declared.json.error.JsonFrontendError.TheVariants.{SyscallName}
use Rattle.seccompiler.specs.declared.json.types.JsonCondition.{JsonCondition}
use Rattle.seccompiler.specs.JsonGathered.{entry_of, told_of}
use Rattle.seccompiler.specs.JsonPolicyOf.{IsFineEntry, IsFor, is_always}
use Rattle.seccompiler.proofs.json.policy.GatheredEntries.{next_done, next_wrong, none_gathered}
use Rattle.seccompiler.proofs.json.policy.ToldNumbers.{place_of_name, told_more}
use Rattle.seccompiler.proofs.json.policy.EntryFaults.{unknown_entry, wrong_entry}
use Rattle.seccompiler.proofs.json.policy.gather.Goals.{in-None, in-Some-conditions+in_ok-add_rule-in-Some-conditions}
use Rattle.seccompiler.proofs.json.policy.gather.Goals as goal

pub overflow_cast-always : goal.overflow_cast-always
overflow_cast-always c =
    let number = place_of_name _ _ c.in-Some.number c.new-table.ensures.table c.in-Some.ensures in
    rw number.held (tt, omega (arith, number.within))

pub bounds-always-number : goal.bounds-always-number
bounds-always-number c =
    let number = place_of_name _ _ c.in-Some.number c.new-table.ensures.table c.in-Some.ensures in
    rw number.held number.within

pub loop-entry-init : goal.loop-entry-init
loop-entry-init c = record { fine = All-nil _; gathered = none_gathered c.args.arch _ c.new-rules.ensures.empty refl; long = refl }

pub loop-entry-preserved : goal.loop-entry-preserved
loop-entry-preserved c =
    let number = place_of_name _ _ c.in-Some.number c.new-table.ensures.table c.in-Some.ensures in
    let so_far = c.loop-entry.invariant in
    let named = entry_of c.entry.inside.syscall.now c.entry.inside.conditions in
    let next = next_done c.args.arch c.args.entries.now _ _ named _ c.loop-entry-test.true c.entry-item.is c.entry.view_is so_far in
    elim c.match-entry.branch [
      | in-Some-conditions+in_ok-add_rule-in-Some-conditions w ↦
          let fine : IsFineEntry c.args.arch named = search rules in
          rw (w.rules-is, w.always-is) (next _ so_far.long fine (record { rules = search rules; always = search rules }))
      | in-None w ↦
          let fine : IsFineEntry c.args.arch named = search rules in
          rw (w.rules-is, w.always-is) (next _ (search rules) fine (record {
            rules = search rules;
            always = λ q.
                let same : int_eq q c.in-Some.number ≡ is_always c.args.arch q named = search rules in
                rw number.held (told_more c.loop-entry.always number.place q (omega (arith, so_far.long, number.within))
                ∙ ap (λ b. told_of c.loop-entry.always q || b) (rw number.is at same));
          }))
    ]

pub returns-in_default : goal.returns-in_default
returns-in_default c =
    let named = entry_of c.entry.inside.syscall.now c.entry.inside.conditions in
    let unknown : number_of (table_of c.args.arch) named.syscall ≡ None = search rules in
    let same : string_bytes c.in-Ok.name ≡ named.syscall = search rules in
    next_wrong c.args.arch c.args.entries.now _ _ named _ c.loop-entry-test.true c.entry-item.is c.entry.view_is c.loop-entry.invariant
    (SyscallName c.in-Ok.name c.args.arch) (unknown_entry c.args.arch named _ unknown same)

pub returns-in_err-add_rule-in-Some-conditions : goal.returns-in_err-add_rule-in-Some-conditions
returns-in_err-add_rule-in-Some-conditions c =
    let end = c.from_residual in
    let p = err_from_is_err_and end.result end.ensures.1 in
    let named = entry_of c.entry.inside.syscall.now c.entry.inside.conditions in
    let known : IsFor c.args.arch c.in-Some.number named = search rules in
    rw (p.1, p.2) (next_wrong c.args.arch c.args.entries.now _ _ named _ c.loop-entry-test.true c.entry-item.is c.entry.view_is
    c.loop-entry.invariant _ (wrong_entry c.args.arch named c.in-Some.number c.in-Some-conditions.conditions.items _ known
    (ap (option_map (λ (all : Vec JsonCondition Global). all.items)) c.in-Some-conditions.is)
    (rw c.as_slice.ensures.value at c.in_err-add_rule-in-Some-conditions.ensures)))
