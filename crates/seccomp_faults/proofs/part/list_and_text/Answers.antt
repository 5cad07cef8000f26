use Rattle.std.proofs.Common.{inr}
use Rattle.seccomp_faults.specs.Faults.{HasKey}
use Rattle.seccomp_faults.proofs.Values.{found_value}
use Rattle.seccomp_faults.proofs.Parts.{view}
use Rattle.seccomp_faults.proofs.part.list_and_text.Goals as goal

pub returns : goal.returns
returns c = λ target outer there.
    let d = view c.args.value.now in
    let list = c.in-Some-Some.list in
    let name = c.in-Some-Some.name in
    let has : HasKey d c.args.key.now = (view list.now, found_value c.get.result list _ c.get.ensures c.in-Some-Some.is-0) in
    let has_other : HasKey d c.args.other.now = (view name.now, found_value c.get-2.result name _ c.get-2.ensures c.in-Some-Some.is-1) in
    (inr there, has, has_other)
