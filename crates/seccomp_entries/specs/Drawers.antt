-- Entries by what each call that meets them has.
use Rattle.std.specs.Prelude.{◌≡◌, ◌<◌, ◌≤◌, ◌%◌, ◌^◌, ◌⊎◌, ℕ, List, Option, Any, Contains, IsSomeAnd, Some, Vec, slice_get}
use Rattle.std.specs.BTreeMap.{BTreeMap, get}
use Rattle.std.specs.Ordering.{nat_cmp, ordering_then}
use Rattle.std.specs.declared.cmp.Ordering.{Ordering}
use Rattle.std.specs.declared.alloc.Global.{Global}
use Rattle.seccompiler.specs.declared.backend.SeccompCmpOp.TheVariants.{Eq}
use Rattle.seccomp_entries.specs.Entries.{Entry, Meets}

-- An argument, and the low half of a value; or 6, and the number of a call.
abbrev pub Drawer : Type 0
Drawer = ℕ × ℕ

-- The drawer is one of the entry: that of an argument which a condition wants to equal a value, or that of its number.
abbrev pub IsDrawerOf : Entry → Drawer → Type 0
IsDrawerOf e d = (d ≡ (6, e.number)) ⊎ Any (λ c. (c.operator ≡ Eq) × (c.arg_index ≤ 5) × (d ≡ (c.arg_index, c.value % 2 ^ 32))) e.conditions

-- How drawers are ordered.
abbrev pub drawer_cmp : Drawer → Drawer → Ordering
drawer_cmp x y = ordering_then (nat_cmp x.0 y.0) (nat_cmp x.1 y.1)

-- The place stands in the drawer.
abbrev pub IsIn : BTreeMap Drawer (Vec ℕ Global) → Drawer → ℕ → Type 0
IsIn files drawer place = IsSomeAnd (get drawer_cmp files drawer) (λ places. Contains places.items place)

-- The place stands in a drawer of the entry.
pub record IsFiled (files : BTreeMap Drawer (Vec ℕ Global)) (place : ℕ) (e : Entry) : Type 0 where
  pub drawer : Drawer
  pub is : IsDrawerOf e drawer
  pub inside : IsIn files drawer place

-- Each of the entries below this place is filed.
abbrev pub AreFiled : List Entry → ℕ → BTreeMap Drawer (Vec ℕ Global) → Type 0
AreFiled entries below files = (k : ℕ) (e : Entry) → k < below → slice_get entries k ≡ Some e → IsFiled files k e

-- ---- between the private functions

-- The record meets the entry at the index.
abbrev pub MeetsAt : List Entry → List ℕ → ℕ → Type 0
MeetsAt entries r k = IsSomeAnd (slice_get entries k) (Meets r)

-- Something was found, and is no greater.
abbrev pub IsFoundBy : Option ℕ → ℕ → Type 0
IsFoundBy found k = IsSomeAnd found (λ j. j ≤ k)
