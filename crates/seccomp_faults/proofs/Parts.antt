-- For `level` and `walk`: lists that grow at their ends, rows of the tables, and how deep the values inside are.
use Rattle.std.proofs.Common.{◌≡◌, ℕ, zero, suc, ◌<◌, ◌≤◌, max, length, map, get_or, List, [], ◌∷◌, ◌++◌, All, Contains, Option, Some, None}
use Rattle.std.proofs.Common.{arith, refl, sym, subst}
use Rattle.std.specs.declared.cmp.Ordering.{Ordering}
use Rattle.std.specs.declared.cmp.Ordering.TheVariants.{Less, Equal, Greater}
use Rattle.std.specs.Cmp.Lexicographic.{slice_cmp}
use Rattle.std.specs.Ordering.{nat_cmp, match_ordering}
use Rattle.std.proofs.lemmas.List.{get_or-map, length-map}
use Rattle.std.proofs.lemmas.List.Elements.{All-head, All-push, All-tail, Contains-get_or}
pub use Rattle.serde_json.specs.Data.{array, object}
use Rattle.serde_json.specs.Data.{Data, Items, no_items, item, Members, no_members, member}
use Rattle.serde_json.specs.Data.{depth, items_depth, members_depth}
use Rattle.serde_json.specs.Find.{get_item, get_member}
pub use Rattle.serde_json.specs.View.{view}
pub use Rattle.seccompiler.specs.declared.backend.TargetArch.{TargetArch}
pub use Rattle.seccomp_faults.specs.Faults.{IsFault, IsPart}
use Rattle.seccomp_faults.specs.Faults.{step_to}
use Rattle.seccomp_faults.specs.Table.{Row, row_of}
use Rattle.seccomp_faults.specs.declared.table.Rule.{Rule}
use Rattle.seccomp_text.specs.declared.steps.Step.{Step}
use Rattle.seccomp_text.specs.declared.steps.Step.TheVariants as step

-- What holds of all of a list and of one more holds of all of the list that has it at its end.
pub pushed : {X : Type 0} (P : X → Type 0) (xs ys : List X) (x : X) → ys ≡ xs ++ x ∷ [] → All P xs → P x → All P ys
pushed P xs ys x is each one = subst (All P) (sym is) (All-push P xs x each one)

-- What holds of all that is left holds of the first of it, and of the rest.
pub split : {X : Type 0} (P : X → Type 0) (all rest : List X) (first : X) → All P all → all ≡ first ∷ rest → P first × All P rest
split P all rest first each is = let left = subst (All P) is each in (All-head P first rest left, All-tail P first rest left)

-- The row of the rule at a place is among the rows.
pub row_at : (rules : List Rule) (rows : List Row) (i : ℕ) (d : Rule) → map row_of rules ≡ rows → i < length rules
    → Contains rows (row_of (get_or rules i d))
row_at rules rows i d are inside =
    let at : get_or (map row_of rules) i (row_of d) ≡ row_of (get_or rules i d) = get_or-map row_of rules i d (row_of d) inside in
    let there = Contains-get_or (map row_of rules) i (row_of d) (rw length-map inside) in
    subst (λ all. Contains all (row_of (get_or rules i d))) are (subst (Contains (map row_of rules)) at there)

-- ---- depths

within_items : (i : ℕ) (ds : Items) (d : Data) → get_item i ds ≡ Some d → depth d ≤ items_depth ds
within_items i no_items d is = cc
within_items zero (item e ds) d is = let same : e ≡ d = cc in rw (← same) (omega arith)
within_items (suc i) (item e ds) d is = let inside = within_items i ds d is in omega arith

by_order : (o : Ordering) (e d : Data) (rest : Option Data) (n : ℕ) → (rest ≡ Some d → depth d ≤ n)
    → match_ordering o rest (Some e) rest ≡ Some d → depth d ≤ max (depth e) n
by_order Less e d rest n inside is = let least = inside is in omega arith
by_order Equal e d rest n inside is = let same : e ≡ d = cc in rw (← same) (omega arith)
by_order Greater e d rest n inside is = let least = inside is in omega arith

within_members : (key : List ℕ) (ms : Members) (d : Data) → get_member key ms ≡ Some d → depth d ≤ members_depth ms
within_members key no_members d is = cc
within_members key (member l e ms) d is =
    by_order (slice_cmp nat_cmp key l) e d (get_member key ms) (members_depth ms) (within_members key ms d) is

-- A step leads to a value that is less deep.
pub shallower : (own : Step) (d there : Data) → step_to own d ≡ Some there → depth there < depth d
shallower (step.Key key) (object ms) there is = let inside = within_members _ ms there is in omega arith
shallower (step.Key key) _ there is = cc
shallower (step.Item i) (array ds) there is = let inside = within_items i ds there is in omega arith
shallower (step.Item i) _ there is = cc
