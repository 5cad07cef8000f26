-- The entries of a profile as they are taken for the calls of 32-bit programs.
use Rattle.std.specs.Prelude.{ℕ, ◌++◌, ◌%◌, ◌^◌, Bool, true, false, List, [], ◌∷◌, Option, Some, None, codes, if◌then◌else◌, map}
use Rattle.std.specs.Prelude.{nat_eq, not}
use Rattle.std.specs.List.{filter, flat_map}
use Rattle.std.specs.Map.{lookup}
use Rattle.std.specs.Str.{bytes_eq}
use Rattle.seccomp_names.specs.CallTables.{pairs_of}
use Rattle.seccomp_names.specs.declared.call_table.CallTable.TheVariants.{Ipc, Socketcall}
use Rattle.seccomp_profiles.specs.declared.types.Argument.{Argument}
use Rattle.seccomp_profiles.specs.declared.types.Abi.{Abi}
use Rattle.seccomp_profiles.specs.declared.types.Abi.TheVariants.{I386, Native, X32}
use Rattle.seccomp_profiles.specs.declared.types.Operator.TheVariants.{Eq}
use Rattle.seccomp_profiles.specs.Decision.{share}
use Rattle.seccomp_profiles.specs.Types.{Entry, Profile}

-- A condition with the low 32 bits of its numbers.
abbrev pub cut : Argument → Argument
cut a = record { index = a.index; value = a.value % 2 ^ 32; value_two = a.value_two % 2 ^ 32; operator = a.operator }

-- The entry with other names and conditions.
abbrev pub with_parts : Entry → List (List ℕ) → List Argument → Entry
with_parts e names args = record { names = names; action = e.action; args = args; includes = e.includes; excludes = e.excludes }

abbrev pub cut_entry : Entry → Entry
cut_entry e = with_parts e e.names (map cut e.args)

-- What a runtime makes a rule of: the conditions together, or each alone, if two are on one argument.
abbrev pub rules_of : List Argument → List (List Argument)
rules_of args = if share args then map (λ a. a ∷ []) args else args ∷ []

-- The conditions of a call that another one stands for, by its first argument: that this is the call's number, and its own conditions
-- but those on argument 0.
abbrev pub asked_by : ℕ → List Argument → List Argument
asked_by number args = record { index = 0; value = number; value_two = 0; operator = Eq } ∷ filter (λ a. not (nat_eq a.index 0)) args

-- The entries for the call of this name that stands for the call of this number.
abbrev pub entries_by : List ℕ → Entry → Option ℕ → List Entry
entries_by call e None = []
entries_by call e (Some number) = map (λ args. with_parts e (call ∷ []) (asked_by number args)) (rules_of (map cut e.args))

-- Those of a name: `socketcall` and `ipc` stand for calls of i386 (socketcall(2), ipc(2); libseccomp makes such rules).
abbrev pub entries_for_name : Entry → List ℕ → List Entry
entries_for_name e name = entries_by (codes "socketcall") e (lookup (bytes_eq name) (pairs_of Socketcall))
    ++ entries_by (codes "ipc") e (lookup (bytes_eq name) (pairs_of Ipc))

abbrev pub entries_for_names : Entry → List Entry
entries_for_names e = flat_map (entries_for_name e) e.names

-- All entries; and behind them, if calls are shared, those of `socketcall` and `ipc`.
abbrev pub taken : Bool → List Entry → List Entry
taken are_shared entries = map cut_entry entries ++ (if are_shared then flat_map entries_for_names entries else [])

-- The entries that count for these calls: none if the profile doesn't list the architecture.
abbrev pub entries_on : Abi → Profile → List Entry
entries_on (Native arch) p = p.entries
entries_on I386 p = if p.lists_x86 then taken true p.entries else []
entries_on X32 p = if p.lists_x32 then taken false p.entries else []
