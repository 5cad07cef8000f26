use Rattle.std.proofs.Common.{◌≡◌, ℕ, IsSome, Some, ap, rules, subst, sym}
use Rattle.std.specs.BTreeMap.{Updates, get}
use Rattle.std.specs.Ordering.{nat_cmp}
use Rattle.seccomp_entries.specs.Entries.{Entry}
use Rattle.seccomp_entries.proofs.decisions.Calls.{ruling_more}
use Rattle.seccomp_entries.proofs.decisions.push_ruling.Goals as goal

pub returns-clause-own : goal.returns-clause-own
returns-clause-own c =
    let entry = c.args.entry.now in
    let old = c.args.calls.now in
    let rulings = c.push.new.self in
    let new = c.get_mut.follows.lender rulings in
    let number : c.entry.inside.number ≡ entry.number = ap (λ (e : Entry). e.number) c.entry.view_is in
    let there : get nat_cmp old entry.number ≡ Some c.in-Some.rulings.now = search rules in
    let has = subst (λ (k : ℕ). IsSome (get nat_cmp old k)) (sym number) (c.requires.has entry.number c.requires.of_call) in
    let updates = subst (λ (k : ℕ). Updates nat_cmp old new k (Some rulings)) number ((c.get_mut.follows.holds rulings).3 has) in
    ruling_more entry old new c.in-Some.rulings.now rulings there (search rules) updates
