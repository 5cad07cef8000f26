-- For `filter_map::read_filters`: a value is at most one filter.
use Rattle.std.proofs.Common.{◌≡◌, ℕ, List, [], ◌∷◌, Option, false, bytes_eq, codes, refl, sym, ◌∙◌, arith}
use Rattle.std.proofs.lemmas.Cmp.{nat_list_eq_equiv}
use Rattle.std.proofs.lemmas.Map.Views.{list_any-from_Contains}
use Rattle.serde_json.specs.Data.{Data, string, array, Items, no_items, item}
use Rattle.serde_json.specs.Find.{get}
use Rattle.seccompiler.specs.declared.backend.SeccompAction.{SeccompAction}
use Rattle.seccompiler.specs.declared.json.types.JsonCondition.{JsonCondition}
use Rattle.seccompiler.specs.JsonTypes.{JsonFilter}
use Rattle.seccompiler.specs.JsonShape.{IsWhole, IsNumbered, Under, IsAction, IsOperator, IsArgLen, IsCondition, OneByOne, IsListOf, IsArgs}
use Rattle.seccompiler.specs.JsonShape.{IsEntry, IsOneAction, IsFilter}

-- The value is at most one thing of the kind.
abbrev AtMostOne : {X : Type 0} → (Data → X → Type 0) → Type 0
AtMostOne {X} P = (d : Data) (x y : X) → P d x → P d y → x ≡ y

one_whole : (most : ℕ) → AtMostOne (IsWhole most)
one_whole most d x y h k = let e = sym h.held ∙ k.held in cc

-- What is under a name is at most one thing, if each value is.
one_under : {X : Type 0} (P : Data → X → Type 0) → AtMostOne P → (name : List ℕ) → AtMostOne (λ d x. Under d name (λ v. P v x))
one_under P one name = grind arith

-- An object of one name has no other.
no_second : (most : ℕ) (name other : List ℕ) (d : Data) (x y : ℕ) → bytes_eq other name ≡ false
    → IsNumbered most name d x → IsNumbered most other d y → ⊥
no_second most name other d x y differs h k = grind (arith, list_any-from_Contains, nat_list_eq_equiv)

one_action : AtMostOne IsAction
one_action = grind (arith, one_under, one_whole, no_second)

one_operator : AtMostOne IsOperator
one_operator = grind (arith, one_under, one_whole)

one_arg_len : AtMostOne IsArgLen
one_arg_len d a b h k = grind arith

one_condition : AtMostOne IsCondition
one_condition = grind (arith, one_under, one_whole, one_arg_len, one_operator)

-- Items are at most one list of things, if each value is at most one.
one_by_one : {X : Type 0} (P : Data → X → Type 0) → AtMostOne P → (items : Items) (xs ys : List X)
    → OneByOne P items xs → OneByOne P items ys → xs ≡ ys
one_by_one P one no_items [] [] h k = refl
one_by_one P one (item d items) (x ∷ xs) (y ∷ ys) h k = let first = one d x y h.0 k.0 in
    let rest = one_by_one P one items xs ys h.1 k.1 in cc
one_by_one P one _ _ _ h k = absurd assumption

one_list : {X : Type 0} (P : Data → X → Type 0) → AtMostOne P → AtMostOne (IsListOf P)
one_list P one (array items) xs ys h k = one_by_one P one items xs ys h k
one_list P one d xs ys h k = absurd h

one_args : (o : Option Data) (a b : Option (List JsonCondition)) → IsArgs o a → IsArgs o b → a ≡ b
one_args o a b h k = grind (arith, one_by_one, one_condition)

one_entry : AtMostOne IsEntry
one_entry d r s h k =
    let name = one_under (λ v t. v ≡ string t) (λ v t u e f. let g = sym e ∙ f in cc) (codes "syscall") d _ _ h.syscall k.syscall in
    let args = one_args (get (codes "args") d) _ _ h.conditions k.conditions in
    λ t. record { syscall = name t; conditions = args t }

one_of_two : (o p : Option Data) (a b : SeccompAction) → IsOneAction o p a → IsOneAction o p b → a ≡ b
one_of_two o p a b h k = grind (arith, one_action)

pub one_filter : (d : Data) (f g : JsonFilter) → IsFilter d f → IsFilter d g → f ≡ g
one_filter d f g h k =
    let n = one_of_two _ _ _ _ h.mismatch_action k.mismatch_action in
    let m = one_of_two _ _ _ _ h.match_action k.match_action in
    let rules = one_under (IsListOf IsEntry) (one_list IsEntry one_entry) (codes "filter") d _ _ h.rules k.rules in
    λ t. record { mismatch_action = n t; match_action = m t; rules = rules t }
