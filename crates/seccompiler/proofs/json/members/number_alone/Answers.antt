use Rattle.std.proofs.Common.{◌≡◌, ◌∷◌, [], List, ℕ, Option, Some, None, ap, ◌∙◌, sym}
use Rattle.std.specs.Option.{IfSome, IfNone, MatchOption}
use Rattle.serde_json.specs.Data.{Data, object}
use Rattle.serde_json.specs.View.{view, members_view}
use Rattle.serde_json.proofs.Views.{view-Object}
use Rattle.seccompiler.specs.JsonShape.{Has, HasOnly, IsNumbered, IsWhole, Under}
use Rattle.seccompiler.proofs.json.members.ObjectNames.{one_name, not_one_name}
use Rattle.seccompiler.proofs.json.members.number_alone.Goals as goal

-- A number under the one name of an object, or none.
numbered : (d : Data) (name : List ℕ) (most : ℕ) (found : Option ℕ) → ((value : Data) → Has d name value → HasOnly d (name ∷ []))
    → MatchOption found ((n : ℕ) → Under d name (λ v. IsWhole most v n) → ⊥) (λ n. Under d name (λ v. IsWhole most v n))
    → IfSome found (IsNumbered most name d) × IfNone found ((n : ℕ) → IsNumbered most name d n → ⊥)
numbered d name most None only none = (tt, λ n is. none n is.count)
numbered d name most (Some n) only is = (record { names = only is.0 is.1; count = is }, tt)

pub returns-then-len-ne1-clause-none : goal.returns-then-len-ne1-clause-none
returns-then-len-ne1-clause-none c n given =
    let members = c.in-Object.members in
    let is : view c.args.value.now ≡ object (members_view members.entries) = ap view c.in-Object.is ∙ view-Object members in
    not_one_name c.args.name.now members.entries given.count.0 c.len.ensures.ordered (λ one. c.if-len-ne1.true (c.len.ensures.len ∙ one))
    (rw is at given.count.1) (rw is at given.names)

pub returns : goal.returns
returns c =
    let members = c.in-Object.members in
    let is : view c.args.value.now ≡ object (members_view members.entries) = ap view c.in-Object.is ∙ view-Object members in
    let both = numbered (view c.args.value.now) c.args.name.now c.args.most c.whole_number.result
    (λ value there. rw is (one_name c.args.name.now members.entries value (sym c.len.ensures.len ∙ c.if-len-ne1.false) (rw is at there)))
    (c.whole_number.ensures (view c.args.value.now) c.args.name.now c.get.ensures) in
    record { found = both.0; none = both.1 }
