use Rattle.std.proofs.Common.{refl, inl, inr}
use Rattle.seccomp_faults.specs.Faults.{HasKey}
use Rattle.seccomp_faults.specs.Table.{one_of}
use Rattle.seccomp_faults.proofs.Values.{found_value}
use Rattle.seccomp_faults.proofs.Parts.{view}
use Rattle.seccomp_faults.proofs.part.under_one_of.Goals as goal

pub returns-in-Some-Some : goal.returns-in-Some-Some
returns-in-Some-Some c = λ outer there is_object.
    let one = c.in-Some-Some.field-0-0 in
    let other = c.in-Some-Some.field-0-1 in
    let d = view c.args.value.now in
    let has : HasKey d c.args.key.now = (view one.now, found_value c.get.result one _ c.get.ensures c.in-Some-Some.is-0) in
    let has_other : HasKey d c.args.other.now = (view other.now, found_value c.get-2.result other _ c.get-2.ensures c.in-Some-Some.is-1) in
    (inl (c.args.form, there), has, has_other)

pub returns-in-Some-None : goal.returns-in-Some-None
returns-in-Some-None c = λ outer there is_object.
    c.under.ensures outer (view c.args.value.now) (inr (one_of c.args.key.now c.args.other.now c.args.form, there, (inl refl, refl)))
    (found_value c.get.result c.in-Some-None.inner _ c.get.ensures c.in-Some-None.is-0)

pub returns-in-None-Some : goal.returns-in-None-Some
returns-in-None-Some c = λ outer there is_object.
    c.under-in-None-Some.ensures outer (view c.args.value.now)
    (inr (one_of c.args.key.now c.args.other.now c.args.form, there, (inr refl, refl)))
    (found_value c.get-2.result c.in-None-Some.inner _ c.get-2.ensures c.in-None-Some.is-1)
