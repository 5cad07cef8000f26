use Rattle.std.proofs.Common.{◌≡◌, ◌∙◌, ap, arith, length, subst, sym}
use Rattle.std.proofs.lemmas.List.{length-map}
use Rattle.seccompiler.specs.Architecture.{table_of}
use Rattle.seccompiler.proofs.TableFacts.{is_call_table}
use Rattle.seccompiler.proofs.syscall_table.Halving.{IsHalf, between, between_all, compared_with, counted_all, counted_here, long, lower}
use Rattle.seccompiler.proofs.syscall_table.Halving.{missed, number_at, tied, upper, whole}
use Rattle.seccompiler.proofs.syscall_table.SyscallTable.find.Goals as goal

pub loop-start-init : goal.loop-start-init
loop-start-init c =
    let table = table_of c.args.self.now in
    let many : length c.numbers-numbers.result.now ≡ length table =
    ap length c.numbers-numbers.ensures ∙ length-map table (λ pair. pair.1) in
    let all = ap (between table 0) many ∙ between_all table in
    record {
      half = subst (IsHalf table c.args.name.now 0) (sym all) (whole table c.args.name.now (is_call_table c.args.self.now));
      ordered = omega arith;
      within = omega (arith, many);
    }

pub loop-start-preserved-in-Less : goal.loop-start-preserved-in-Less
loop-start-preserved-in-Less c =
    let l = c.loop-start in
    let with_middle = compared_with (table_of c.args.self.now) c.args.name.now l.start l.end c.loop-start-test.true l.invariant.within
    c.name.ensures c.in-Less.is c.cmp.ensures in
    record {
      half = lower (table_of c.args.self.now) c.args.name.now l.compared l.start _ l.end (omega (arith, l.invariant.ordered))
          l.invariant.half with_middle;
      ordered = omega arith;
      within = omega (arith, l.invariant.ordered, l.invariant.within);
    }

pub loop-start-preserved : goal.loop-start-preserved
loop-start-preserved c =
    let l = c.loop-start in
    let with_middle = compared_with (table_of c.args.self.now) c.args.name.now l.start l.end c.loop-start-test.true l.invariant.within
    c.name.ensures c.in-Greater.is c.cmp.ensures in
    record {
      half = upper (table_of c.args.self.now) c.args.name.now l.compared l.start _ l.end (omega (arith, c.loop-start-test.true))
          l.invariant.half with_middle;
      ordered = omega (arith, c.loop-start-test.true);
      within = l.invariant.within;
    }

pub returns-in-Equal-clause-number : goal.returns-in-Equal-clause-number
returns-in-Equal-clause-number c =
    let same : c.args.name.now ≡ c.name.result.now = tied c.args.name.now c.name.result.now (sym c.cmp.ensures ∙ c.in-Equal.is) in
    number_at (table_of c.args.self.now) c.args.name.now _ c.numbers-numbers.result.now (is_call_table c.args.self.now)
    c.numbers-numbers.ensures (omega (arith, c.loop-start-test.true, c.loop-start.invariant.within)) (λ d. same ∙ c.name.ensures d)

pub returns-in-Equal-clause-compared : goal.returns-in-Equal-clause-compared
returns-in-Equal-clause-compared c =
    let l = c.loop-start in
    let with_middle = compared_with (table_of c.args.self.now) c.args.name.now l.start l.end c.loop-start-test.true l.invariant.within
    c.name.ensures c.in-Equal.is c.cmp.ensures in
    counted_here (table_of c.args.self.now) c.args.name.now l.compared _ _ l.invariant.half with_middle

pub returns-clause-compared : goal.returns-clause-compared
returns-clause-compared c =
    let l = c.loop-start in
    let none = long (table_of c.args.self.now) l.start l.end l.invariant.within in
    counted_all (table_of c.args.self.now) c.args.name.now l.compared _ l.invariant.half (omega (arith, none, c.loop-start-test.false))

pub returns-clause-missed : goal.returns-clause-missed
returns-clause-missed c =
    let l = c.loop-start in
    let none = long (table_of c.args.self.now) l.start l.end l.invariant.within in
    missed (table_of c.args.self.now) c.args.name.now l.compared _ l.invariant.half (omega (arith, none, c.loop-start-test.false))
