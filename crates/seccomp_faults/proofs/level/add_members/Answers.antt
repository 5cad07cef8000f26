use Rattle.std.proofs.Common.{◌≡◌, ◌∷◌, ◌++◌, [], Some, string_cmp, sym, ap, ◌∙◌, subst, append_assoc}
use Rattle.std.specs.List.Sorted.{IsStrictlySortedBy}
use Rattle.std.specs.Map.{keys_of}
use Rattle.serde_json.specs.Find.{get_member}
use Rattle.serde_json.specs.View.{members_view}
use Rattle.serde_json.proofs.Views.{Entry}
use Rattle.seccomp_faults.proofs.Values.{member_there}
use Rattle.seccomp_faults.proofs.Parts.{object, view}
use Rattle.seccomp_faults.proofs.level.add_members.Goals as goal

pub loop-key-preserved : goal.loop-key-preserved
loop-key-preserved c =
    let (done, is, each) = c.loop-key.invariant in
    let e : Entry = (c.in-Some.key.now, c.in-Some.inner.now) in
    let left = c.next.new.self in
    let all : c.args.members.now.entries ≡ done ++ e ∷ left = is ∙ ap (λ es. done ++ es) c.in-Some.ensures.steps in
    let sorted : IsStrictlySortedBy string_cmp (keys_of (done ++ e ∷ left)) =
    subst (λ es. IsStrictlySortedBy string_cmp (keys_of es)) all c.iter-key-items.ensures.ordered in
    let there : get_member c.as_str.result.now (members_view c.args.members.now.entries) ≡ Some (view e.1) =
    rw (all, c.as_str.ensures.value) (member_there done e left sorted) in
    let d = object (members_view c.args.members.now.entries) in (
      done ++ e ∷ [],
      all ∙ sym (append_assoc done (e ∷ []) left),
      λ old. c.in_ok-add.ensures c.args.target c.args.form d (c.in_ok-by_key.ensures d there) (each old),
    )
