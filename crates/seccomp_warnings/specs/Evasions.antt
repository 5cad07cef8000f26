-- Calls by which a filter or a profile is evaded: one that it denies, and one that it lets through and that differs from the first in
-- what changes nothing of what is denied, or is another call by which the same can be done.
use Rattle.std.specs.Prelude.{◌≡◌, ◌≢◌, ℕ, ◌+◌, ◌*◌, ◌<◌, ◌⊎◌, List, All, Any, Contains, Some, bit_and, bit_xor, map, slice_get}
use Rattle.seccompiler.specs.declared.backend.TargetArch.{TargetArch}
use Rattle.seccompiler.specs.Architecture.{audit_word}
use Rattle.seccompiler.specs.Machine.{word_at}
use Rattle.seccompiler.specs.Policy.{Condition, Holds}
use Rattle.seccomp_entries.specs.Entries.{Entry, IsDecided, Lowered, value_of}
use Rattle.seccomp_warnings.specs.AnyArgument.{condition_of}
use Rattle.seccomp_warnings.specs.CallWarnings.{IsNumberOf}
use Rattle.seccomp_warnings.specs.declared.code.Code.{Code}
use Rattle.seccomp_warnings.specs.declared.code.Code.TheVariants as code
use Rattle.seccomp_warnings.specs.declared.evasion.Evasion.{Evasion}
use Rattle.seccomp_warnings.specs.declared.tables.TheConstants.{DETOURS, FLAGS}

-- This return value lets a call through (seccomp(2): SECCOMP_RET_ALLOW and SECCOMP_RET_LOG).
abbrev pub IsPermitting : ℕ → Type 0
IsPermitting w = (w ≡ 0x7fff0000) ⊎ (w ≡ 0x7ffc0000)

-- The entries and defaults let the call of this record through; or they deny it.
abbrev pub LetsThrough : Lowered → List ℕ → Type 0
LetsThrough l r = (w : ℕ) × IsDecided l r w × IsPermitting w

abbrev pub DeniesCall : Lowered → List ℕ → Type 0
DeniesCall l r = (w : ℕ) × IsDecided l r w × (IsPermitting w → ⊥)

-- The record is of a call of this number on the architecture.
abbrev pub IsCallOf : TargetArch → (number : ℕ) → List ℕ → Type 0
IsCallOf arch number r = (word_at r 4 ≡ audit_word arch) × (word_at r 0 ≡ number)

-- The condition holds for one of two calls alone.
abbrev pub IsApart : Condition → (denied passed : List ℕ) → Type 0
IsApart c denied passed = (Holds c denied × (Holds c passed → ⊥)) ⊎ ((Holds c denied → ⊥) × Holds c passed)

-- The entry decides a call by the condition: it lets calls through, and the condition doesn't hold; or it denies them, and it holds.
abbrev pub IsDecidedBy : Entry → Condition → List ℕ → Type 0
IsDecidedBy e c r = (IsPermitting (value_of e.action) × (Holds c r → ⊥)) ⊎ ((IsPermitting (value_of e.action) → ⊥) × Holds c r)

-- Two records have the same words of 32 bits, but for this one.
abbrev pub AreSameBut : (word : ℕ) → (denied passed : List ℕ) → Type 0
AreSameBut word denied passed = (w : ℕ) → w < 16 → w ≢ word → word_at passed (4 * w) ≡ word_at denied (4 * w)

-- By this flag, of a call and of the index of an argument, the second number is the first.
abbrev pub IsFlag : TargetArch → (number index before after : ℕ) → List ℕ × ℕ × ℕ → Type 0
IsFlag arch number index before after (name, at, flag) = IsNumberOf arch name number × (at ≡ index) × (after ≡ bit_xor before flag)

-- The arguments of two calls of this number differ by a flag of the table.
abbrev pub IsFlagApart : TargetArch → (number index : ℕ) → (denied passed : List ℕ) → Type 0
IsFlagApart arch number index denied passed = Any
    (IsFlag arch number index (word_at denied (16 + 8 * index)) (word_at passed (16 + 8 * index)))
    (map (λ row. (row.0.now, row.1, row.2)) FLAGS)

-- An argument, by its two halves.
abbrev pub argument_of : List ℕ → (index : ℕ) → ℕ
argument_of r index = word_at r (16 + 8 * index) + 0x100000000 * word_at r (16 + 8 * index + 4)

-- A call and the index of its argument that asks, another call, the index of its argument that takes, and the bits that it takes there:
-- the first call is the one of the number and index, and the second one's argument is what it takes of the first one's.
abbrev pub IsDetour : TargetArch → (number index : ℕ) → (denied passed : List ℕ) → List ℕ × ℕ × List ℕ × ℕ × ℕ → Type 0
IsDetour arch number index denied passed (name, asking, other, taking, kept) = IsNumberOf arch name number × (asking ≡ index)
    × IsNumberOf arch other (word_at passed 0) × (argument_of passed taking ≡ bit_and (argument_of denied index) kept)

-- By the table the second call can do what the first one asks for by this argument.
abbrev pub IsDetoured : TargetArch → (number index : ℕ) → (denied passed : List ℕ) → Type 0
IsDetoured arch number index denied passed =
    Any (IsDetour arch number index denied passed) (map (λ row. (row.0.now, row.1, row.3.now, row.4, row.5)) DETOURS)

-- Two calls differ as a code says of a condition of an entry: in the high half of its argument alone, in a flag of that alone, or by
-- another call, and the entry denies the first by the condition.
abbrev pub IsSaid : Code → TargetArch → Entry → Condition → (denied passed : List ℕ) → Type 0
IsSaid code.HighHalfEvades arch e c denied passed = IsApart c denied passed × AreSameBut (5 + 2 * c.arg_index) denied passed
IsSaid code.FlagEvades arch e c denied passed = IsApart c denied passed × AreSameBut (4 + 2 * c.arg_index) denied passed
    × IsFlagApart arch e.number c.arg_index denied passed
IsSaid code.ConditionEvaded arch e c denied passed = IsDecidedBy e c denied × IsDetoured arch e.number c.arg_index denied passed
IsSaid other arch e c denied passed = ⊥

-- The condition stands at its place of the filter. The first call is one of its entry, and denied; the second is let through; and they
-- differ as the code says.
pub record IsEvasion (l : Lowered) (v : Evasion) : Type 0 where
  pub entry : Entry
  pub there : slice_get l.entries v.comparison.entry ≡ Some entry
  pub condition : slice_get entry.conditions v.comparison.place ≡ Some (condition_of v.comparison)
  pub own : IsCallOf l.target_arch entry.number v.denied
  pub is_denied : DeniesCall l v.denied
  pub is_let_through : LetsThrough l v.passed
  pub said : IsSaid v.code l.target_arch entry (condition_of v.comparison) v.denied v.passed

-- Evasions of entries and defaults, none of an allowed code.
abbrev pub AreEvasions : List Code → Lowered → List Evasion → Type 0
AreEvasions allowed l found = All (λ v. IsEvasion l v × (Contains allowed v.code → ⊥)) found
