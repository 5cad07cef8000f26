-- For `number_in`, `name_in` and `number_of`: what a list of pairs has at a place, and that all numbers of a table are below its end.
use Rattle.std.proofs.Common.{◌≡◌, ◌<◌, ◌+◌, ℕ, List, Bool, true, Some, cond, drop, length, get_or, refl, sym, ap, ◌∙◌}
use Rattle.std.specs.Prelude.{IfSome}
use Rattle.std.specs.List.{list_all}
use Rattle.std.specs.Map.{lookup}
use Rattle.std.specs.Str.{bytes_eq}
use Rattle.std.proofs.Math.Dec.{ltb}
use Rattle.std.proofs.lemmas.Bool.{ltb-true}
use Rattle.std.proofs.lemmas.List.{at_drop_more}
use Rattle.std.proofs.lemmas.List.Elements.{All-weaker}
use Rattle.std.proofs.lemmas.List.Sums.{AllPass-from_list_all}
use Rattle.std.proofs.lemmas.Map.Entries.{All-lookup}
use Rattle.seccomp_names.specs.CallTables.{end_of, pairs_of}
use Rattle.seccomp_names.specs.declared.call_table.CallTable.{CallTable}
use Rattle.seccomp_names.specs.declared.call_table.CallTable.TheVariants.{I386, X32, Socketcall, Ipc}

-- What the pairs from a place on give to a name, by the pair there.
pub looked_here : (name own : List ℕ) (all : List (List ℕ × ℕ)) (i n : ℕ) (b : Bool) → i < length all
    → (own, n) ≡ get_or all i (own, n) → bytes_eq name own ≡ b
    → lookup (bytes_eq name) (drop i all) ≡ cond b (Some n) (lookup (bytes_eq name) (drop (i + 1) all))
looked_here name own all i n b within is test =
    at_drop_more (lookup (bytes_eq name)) all i (own, n) within
    ∙ ap (λ (pair : List ℕ × ℕ). cond (bytes_eq name pair.0) (Some pair.1) (lookup (bytes_eq name) (drop (i + 1) all))) (sym is)
    ∙ ap (λ b. cond b (Some n) (lookup (bytes_eq name) (drop (i + 1) all))) test

abbrev is_below : ℕ → List ℕ × ℕ → Bool
is_below end pair = ltb pair.1 end

below_in : (end : ℕ) (pairs : List (List ℕ × ℕ)) (name : List ℕ) → list_all (is_below end) pairs ≡ true
    → IfSome (lookup (bytes_eq name) pairs) (λ n. n < end)
below_in end pairs name passed = All-lookup (λ n. n < end) (bytes_eq name) pairs
    (All-weaker (λ pair. is_below end pair ≡ true) (λ (pair : List ℕ × ℕ). pair.1 < end) (λ pair. ltb-true pair.1 end) pairs
    (AllPass-from_list_all (is_below end) pairs passed))

-- The tests, computed.
pub below_end : (table : CallTable) (name : List ℕ) → IfSome (lookup (bytes_eq name) (pairs_of table)) (λ n. n < end_of table)
unfolding pairs_of
below_end I386 name = below_in 463 (pairs_of I386) name refl
below_end X32 name = below_in 548 (pairs_of X32) name refl
below_end Socketcall name = below_in 21 (pairs_of Socketcall) name refl
below_end Ipc name = below_in 25 (pairs_of Ipc) name refl
