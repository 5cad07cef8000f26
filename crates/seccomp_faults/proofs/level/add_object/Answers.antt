use Rattle.std.proofs.Common.{◌≡◌, All, sym, subst}
use Rattle.serde_json.specs.View.{members_view}
use Rattle.serde_json.proofs.Views.{view-Object}
use Rattle.seccomp_faults.proofs.Parts.{IsPart, object, view}
use Rattle.seccomp_faults.proofs.level.add_object.Goals as goal

pub returns-in_ok-add_members-in-Object : goal.returns-in_ok-add_members-in-Object
returns-in_ok-add_members-in-Object c = λ each.
    let P = IsPart c.args.target c.args.form in
    let members = members_view c.in-Object.members.entries in
    let is : view c.args.value.now ≡ object members = rw c.in-Object.is (view-Object c.in-Object.members) in
    let more = c.in_ok-add_members-in-Object.ensures (subst (λ d. All (P d) c.args.parts.now.items) is each) in
    c.add_rules.ensures (members, is) (subst (λ d. All (P d) c.add_members.new.parts.items) (sym is) more)
