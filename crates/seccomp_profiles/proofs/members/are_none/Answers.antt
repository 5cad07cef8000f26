use Rattle.std.proofs.Common.{◌≡◌, ◌↔◌, IsTrue, List, [], ◌∷◌, ap, arith, refl}
use Rattle.std.proofs.lemmas.Grind.{common_steps}
use Rattle.serde_json.specs.Data.{no_items}
use Rattle.serde_json.specs.View.{items_view}
use Rattle.serde_json.specs.declared.value.Value.{Value}
use Rattle.seccomp_profiles.proofs.members.are_none.Goals as goal

none_of : (items : List Value) → items_view items ≡ no_items → items ≡ []
none_of [] none = refl
none_of (v ∷ items) none = absurd cc

pub returns : goal.returns
returns c =
    let nil : IsTrue c.is_empty.result ↔ c.args.items.now ≡ [] = grind (arith, common_steps) in
    (λ yes. ap items_view (nil.0 yes), λ none. nil.1 (none_of c.args.items.now none))
