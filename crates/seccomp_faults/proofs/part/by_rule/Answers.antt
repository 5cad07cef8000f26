use Rattle.std.proofs.Common.{refl, inr}
use Rattle.seccomp_faults.specs.Table.{may, must}
use Rattle.seccomp_faults.proofs.Values.{found_value, lacks_value}
use Rattle.seccomp_faults.proofs.Parts.{view}
use Rattle.seccomp_faults.proofs.part.by_rule.Goals as goal

pub returns-in-Some : goal.returns-in-Some
returns-in-Some c = λ outer there is_object.
    c.under.ensures outer (view c.args.value.now) (inr (may c.in-May.key.now c.in-May.form, rw c.in-May.is at there, (refl, refl)))
    (found_value c.get.result c.in-Some.inner _ c.get.ensures c.in-Some.is)

pub returns-in-Some-get : goal.returns-in-Some-get
returns-in-Some-get c = λ outer there is_object.
    c.under-in-Some-get.ensures outer (view c.args.value.now)
    (inr (must c.in-Must.key.now c.in-Must.form, rw c.in-Must.is at there, (refl, refl)))
    (found_value c.get-in-Must.result c.in-Some-get.inner _ c.get-in-Must.ensures c.in-Some-get.is)

pub returns-in-None-get : goal.returns-in-None-get
returns-in-None-get c = λ outer there is_object.
    (c.in-Must.form, rw c.in-Must.is at there, is_object, lacks_value c.get-in-Must.result _ c.get-in-Must.ensures c.in-None-get.is)

pub returns-in-OneOf : goal.returns-in-OneOf
returns-in-OneOf c = λ outer there is_object. c.under_one_of.ensures outer (rw c.in-OneOf.is at there) is_object

pub returns-in-ActionsDiffer : goal.returns-in-ActionsDiffer
returns-in-ActionsDiffer c = λ outer there is_object. c.same_actions.ensures c.args.target outer (rw c.in-ActionsDiffer.is at there)

pub returns-in-NoneBeside : goal.returns-in-NoneBeside
returns-in-NoneBeside c = λ outer there is_object. c.beside.ensures c.args.target outer (rw c.in-NoneBeside.is at there)

pub returns-in-NotBoth : goal.returns-in-NotBoth
returns-in-NotBoth c = λ outer there is_object. c.list_and_text.ensures c.args.target outer (rw c.in-NotBoth.is at there)
