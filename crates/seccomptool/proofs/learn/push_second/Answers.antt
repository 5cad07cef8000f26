use Rattle.seccomptool.proofs.Common.{◌++◌, ◌∙◌, ◌≡◌, Bool, JsonFilter, List, Some, ap, beside, codes, found_in, get_by_text, rules}
use Rattle.seccomptool.proofs.Common.{string_bytes, sym, true, ℕ}
use Rattle.std.proofs.Common.{bytes_eq}
use Rattle.std.specs.Map.{update}
use Rattle.std.proofs.lemmas.Map.Text.{btree_map_updates_text}
use Rattle.seccomptool.specs.Learn.{with_second}
use Rattle.seccomptool.proofs.learn.push_second.Goals as goal

pub returns : goal.returns
returns c =
    let asked : c.args.is_asked ≡ true = search rules in
    let old = c.args.others.now.0 in
    let new = c.insert.new.self in
    let name = c.args.name.now in
    let key = string_bytes c.in_ok-second.second in
    let filter = c.in_ok-filter.filter in
    let at : (other : List ℕ) → get_by_text new other ≡ with_second c.args.is_asked name (found_in c.args.others.now) other = λ other.
    btree_map_updates_text key old new (Some filter) c.in_ok-insert.ensures.updates other
    ∙ ap (λ (own : List ℕ). update bytes_eq (get_by_text old) own (Some filter) other) c.in_ok-second.ensures.ok
    ∙ ap (λ (own : JsonFilter). beside (found_in c.args.others.now) (name ++ codes "_clone3") own other) c.in_ok-filter.ensures
    ∙ ap (λ (b : Bool). with_second b name (found_in c.args.others.now) other) (sym asked) in
    λ i other. at other i
