use Rattle.std.proofs.Common.{◌≡◌, ◌+◌, ◌-◌, ◌≤◌, ℕ, false, inl, inr, refl, subst, sym, arith}
use Rattle.std.specs.Prelude.{slice_index_or}
use Rattle.std.proofs.lemmas.Bool.{cases_eq, cases_lt}
use Rattle.seccompiler.specs.Architecture.{table_of}
use Rattle.seccompiler.specs.SyscallTable.{IsCallTable}
use Rattle.seccomp_answers.specs.Findings.{ArePartsBelow, HasName, LacksName, name_of, no_part, then_gap, then_named}
use Rattle.seccomp_answers.proofs.findings.Names.{gap_more, is_known, none_above}
use Rattle.seccomp_answers.proofs.findings.parts.parts.Goals as goal
use Rattle.seccomp_answers.proofs.findings.parts.parts.Goals.{then-named-number+in_ok-push-2, then-least-number+in_ok-push}
use Rattle.seccomp_answers.proofs.findings.parts.parts.Goals.{else-named-number, else-least-number}

pub loop-number-init : goal.loop-number-init
loop-number-init c = record {
  few = omega arith;
  below = no_part c.new-parts.ensures.items refl;
  begins = inl refl;
  unnamed = λ n from to. absurd (omega (arith, to));
}

pub loop-number-preserved : goal.loop-number-preserved
loop-number-preserved c =
    let l = c.loop-number in
    let table = table_of c.args.target in
    let known = is_known (slice_index_or c.are_named-named.result l.number false) (name_of table l.number)
    (c.are_named-named.ensures l.number (omega arith)) in
    elim c.if-named-number.branch [
      | then-named-number+in_ok-push-2 w ↦
          let named = known.0 w.if-named-number.true in
          let same : l.number ≡ l.number + 1 - 1 = omega arith in
          let front : ArePartsBelow table w.if-least-number.parts.items l.number = elim w.if-least-number.branch [
            | then-least-number+in_ok-push v ↦
                rw v.parts-is (gap_more table l.least l.number l.parts.items v.push.new.self.items l.invariant.below l.invariant.begins
                v.if-least-number.true c.loop-number-test.true l.invariant.unnamed named v.in_ok-push.ensures.items)
            | else-least-number v ↦
                let met : l.least ≡ l.number = omega (arith, l.invariant.few, v.if-least-number.false) in
                rw v.parts-is (subst (ArePartsBelow table l.parts.items) met l.invariant.below)
          ] in
          rw (w.least-is, w.parts-is) (record {
            few = omega arith;
            below = then_named front named w.in_ok-push-2.ensures.items refl;
            begins = inr (inl (subst (HasName table) same named));
            unnamed = λ n from to. absurd (omega (arith, from, to));
          })
      | else-named-number w ↦
          let lacks = known.1 w.if-named-number.false in
          rw (w.least-is, w.parts-is) (record {
            few = omega (arith, l.invariant.few);
            below = l.invariant.below;
            begins = l.invariant.begins;
            unnamed = λ n from to. elim (cases_eq n l.number) [
              | inl same ↦ subst (LacksName table) (sym same) lacks
              | inr other ↦ l.invariant.unnamed n from (omega arith)
            ];
          })
    ]

pub returns : goal.returns
returns c =
    let l = c.loop-number in
    let table = subst (λ target. IsCallTable (table_of target)) c.new-table.ensures.arch c.new-table.ensures.table in
    let end : 463 ≤ l.number = c.loop-number-test.false in
    let few : l.least ≤ 463 = omega (arith, l.invariant.few, l.auto.number-end) in
    let none = λ (n : ℕ) (low : l.least ≤ n). elim (cases_lt n 463) as (λ _. LacksName (table_of c.args.target) n) [
      | inl less ↦ l.invariant.unnamed n low (omega (arith, less, end))
      | inr more ↦ none_above (table_of c.args.target) table.in_range n more
    ] in
    then_gap (then_gap l.invariant.below
    (record {
      some = omega (arith, few);
      unnamed = λ n from to. none n from;
      begins = l.invariant.begins;
      ends = inr (inr refl);
      apart = inl (omega arith);
    })
    c.in_ok-push-3.ensures.items refl)
    (record {
      some = omega arith;
      unnamed = λ n from to. none n (omega (arith, few, from));
      begins = inr (inr refl);
      ends = inl refl;
      apart = inr (omega arith);
    })
    c.in_ok-push-4.ensures.items refl
