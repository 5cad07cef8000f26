use Rattle.std.proofs.Common.{◌≡◌, ◌∙◌, ap, arith, length, sym}
use Rattle.std.proofs.lemmas.List.{length-map}
use Rattle.std.proofs.lemmas.Slice.Eq.{bytes_eq-Decides}
use Rattle.seccompiler.specs.Architecture.{table_of}
use Rattle.seccompiler.proofs.TableFacts.{is_call_table}
use Rattle.seccompiler.proofs.syscall_table.Halving.{number_at}
use Rattle.seccompiler.proofs.syscall_table.SyscallTable.number_near.Goals as goal

pub returns-then-eq : goal.returns-then-eq
returns-then-eq c =
    let table = table_of c.args.self.now in
    let many : length c.numbers-numbers.result.now ≡ length table =
    ap length c.numbers-numbers.ensures ∙ length-map table (λ pair. pair.1) in
    let same = sym ((bytes_eq-Decides c.name.result.now c.args.name.now).0 (sym c.eq.ensures ∙ c.if-eq.true)) in
    number_at table c.args.name.now _ c.numbers-numbers.result.now (is_call_table c.args.self.now) c.numbers-numbers.ensures
    (omega (arith, many, c.if-place-numbers.true)) (λ d. same ∙ c.name.ensures d)
