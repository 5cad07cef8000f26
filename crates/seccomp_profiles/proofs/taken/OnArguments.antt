-- For `lowered_on`: conditions of entries that are taken are on arguments that a call has, if the profile's are.
use Rattle.std.proofs.Common.{◌≤◌, ℕ, Bool, true, false, List, [], ◌∷◌, Option, Some, None, arith, cond, map}
use Rattle.std.specs.Prelude.{All, codes, nat_eq, not}
use Rattle.std.specs.List.{filter, flat_map}
use Rattle.std.specs.Map.{lookup}
use Rattle.std.specs.Str.{bytes_eq}
use Rattle.std.proofs.lemmas.List.Elements.{All-append, All-cons, All-filter, All-head, All-map, All-nil, All-tail, All-weaker}
use Rattle.seccomp_names.specs.CallTables.{pairs_of}
use Rattle.seccomp_names.specs.declared.call_table.CallTable.TheVariants.{Ipc, Socketcall}
use Rattle.seccomp_profiles.specs.declared.types.Argument.{Argument}
use Rattle.seccomp_profiles.specs.Decision.{share}
use Rattle.seccomp_profiles.specs.Taken.{asked_by, cut, cut_entry, entries_by, entries_for_name, entries_for_names, rules_of}
use Rattle.seccomp_profiles.specs.Taken.{taken, with_parts}
use Rattle.seccomp_profiles.specs.Types.{AllOnArguments, AreOnArguments, Entry}

abbrev IsOnArgument : Argument → Type 0
IsOnArgument a = a.index ≤ 5

abbrev IsOn : Entry → Type 0
IsOn e = AreOnArguments e.args

on_cut : (args : List Argument) → AreOnArguments args → AreOnArguments (map cut args)
on_cut args on = All-map IsOnArgument cut args on

on_asked : (number : ℕ) (args : List Argument) → AreOnArguments args → AreOnArguments (asked_by number args)
on_asked number args on = All-cons IsOnArgument _ (filter (λ (a : Argument). not (nat_eq a.index 0)) args) (omega arith)
    (All-filter (λ (a : Argument). not (nat_eq a.index 0)) IsOnArgument args on)

each_on : (args : List Argument) → AreOnArguments args → (b : Bool)
    → All AreOnArguments (cond b (map (λ a. a ∷ []) args) (args ∷ []))
each_on args on true = All-map AreOnArguments (λ a. a ∷ []) args
    (All-weaker IsOnArgument (λ a. AreOnArguments (a ∷ [])) (λ a here. All-cons IsOnArgument a [] here (All-nil IsOnArgument)) args on)
each_on args on false = All-cons AreOnArguments args [] on (All-nil AreOnArguments)

on_by : (call : List ℕ) (e : Entry) (number : Option ℕ) → IsOn e → AllOnArguments (entries_by call e number)
on_by call e None on = All-nil IsOn
on_by call e (Some number) on = All-map IsOn (λ args. with_parts e (call ∷ []) (asked_by number args)) (rules_of (map cut e.args))
    (All-weaker AreOnArguments (λ args. AreOnArguments (asked_by number args)) (on_asked number) (rules_of (map cut e.args))
    (each_on (map cut e.args) (on_cut e.args on) (share (map cut e.args))))

all_flat : {X Y : Type 0} (P : Y → Type 0) (f : X → List Y) (xs : List X) → All (λ x. All P (f x)) xs → All P (flat_map f xs)
all_flat P f [] each = All-nil P
all_flat P f (x ∷ xs) each =
    All-append P (f x) (flat_map f xs) (All-head (λ x. All P (f x)) x xs each) (all_flat P f xs (All-tail (λ x. All P (f x)) x xs each))

on_names : (e : Entry) (names : List (List ℕ)) → IsOn e → AllOnArguments (flat_map (entries_for_name e) names)
on_names e [] on = All-nil IsOn
on_names e (name ∷ names) on = All-append IsOn (entries_for_name e name) (flat_map (entries_for_name e) names)
    (All-append IsOn (entries_by (codes "socketcall") e (lookup (bytes_eq name) (pairs_of Socketcall)))
    (entries_by (codes "ipc") e (lookup (bytes_eq name) (pairs_of Ipc)))
    (on_by (codes "socketcall") e (lookup (bytes_eq name) (pairs_of Socketcall)) on)
    (on_by (codes "ipc") e (lookup (bytes_eq name) (pairs_of Ipc)) on)) (on_names e names on)

behind_on : (b : Bool) (entries : List Entry) → AllOnArguments entries
    → AllOnArguments (cond b (flat_map entries_for_names entries) [])
behind_on true entries on = all_flat IsOn entries_for_names entries
    (All-weaker IsOn (λ e. AllOnArguments (entries_for_names e)) (λ e here. on_names e e.names here) entries on)
behind_on false entries on = All-nil IsOn

taken_on : (b : Bool) (entries : List Entry) → AllOnArguments entries → AllOnArguments (taken b entries)
taken_on b entries on = All-append IsOn (map cut_entry entries) (cond b (flat_map entries_for_names entries) [])
    (All-map IsOn cut_entry entries (All-weaker IsOn (λ e. IsOn (cut_entry e)) (λ e here. on_cut e.args here) entries on))
    (behind_on b entries on)

-- So are those of entries that count.
pub listed_on : (is_listed are_shared : Bool) (entries : List Entry) → AllOnArguments entries
    → AllOnArguments (cond is_listed (taken are_shared entries) [])
listed_on true are_shared entries on = taken_on are_shared entries on
listed_on false are_shared entries on = All-nil IsOn
