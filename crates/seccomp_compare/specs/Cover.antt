-- Whether rules hold wherever another one does.
use Rattle.std.specs.Prelude.{◌≡◌, ℕ, zero, suc, ◌+◌, ◌*◌, ◌/◌, ◌%◌, ◌<◌, ◌^◌, ◌&&◌, Bool, true, false, if◌then◌else◌, List, []}
use Rattle.std.specs.Prelude.{◌∷◌, Any, nat_eq, ◌++◌, ◌⊎◌, IsTrue, Some, bit_or, length, slice_get}
use Rattle.std.proofs.Math.ListN.{set}
use Rattle.std.specs.List.{list_any}
use Rattle.std.specs.Int.{bit_at}
use Rattle.seccompiler.specs.declared.backend.SeccompCmpArgLen.{SeccompCmpArgLen}
use Rattle.seccompiler.specs.declared.backend.SeccompCmpOp.{SeccompCmpOp}
use Rattle.seccompiler.specs.declared.backend.SeccompCmpOp.TheVariants.{Eq, MaskedEq}
use Rattle.seccompiler.specs.declared.backend.TargetArch.{TargetArch}
use Rattle.seccompiler.specs.Architecture.{audit_word}
use Rattle.seccompiler.specs.Machine.{IsRecord, word_at}
use Rattle.seccompiler.specs.Policy.{Condition, Rule, RuleHolds, part_of}
use Rattle.seccomp_compare.specs.Known.{HasBits, HasKnown, KeepsBits}
use Rattle.seccomp_compare.specs.declared.known.Known.{Known}
use Rattle.seccomp_compare.specs.declared.covered.Seen.{Seen}
use Rattle.seccomp_compare.specs.declared.covered.Seen.TheVariants.{Fails, Holds, Open}
use Rattle.seccomp_compare.specs.declared.covered.Next.{Next}
use Rattle.seccomp_compare.specs.declared.covered.Next.TheVariants as next
use Rattle.seccomp_compare.specs.declared.covered.Cover.{Cover}
use Rattle.seccomp_compare.specs.declared.covered.Cover.TheVariants.{Covered, Escapes, Undecided}

-- A call of this number, of this architecture, for which the rule holds.
pub record IsCallOf (arch : TargetArch) (number : ℕ) (own : Rule) (r : List ℕ) : Type 0 where
  pub record_is : IsRecord r
  pub arch_is : word_at r 4 ≡ audit_word arch
  pub number_is : word_at r 0 ≡ number
  pub holds : RuleHolds own r

-- One of these rules holds for it.
abbrev pub SomeHolds : List Rule → List ℕ → Type 0
SomeHolds others r = Any (λ q. RuleHolds q r) others

-- ---- when it may be undecided

-- The bits that a condition compares.
abbrev pub compared_by : SeccompCmpArgLen → SeccompCmpOp → ℕ
compared_by length (MaskedEq mask) = part_of length mask
compared_by length operator = part_of length 0xffffffffffffffff

abbrev pub compared : Condition → ℕ
compared c = compared_by c.arg_len c.operator

-- Whether it compares bit j of argument i, and whether it says what that bit is.
abbrev pub compares : (i j : ℕ) → Condition → Bool
compares i j c = nat_eq c.arg_index i && nat_eq (bit_at (compared c) j) 1

abbrev pub is_equality : SeccompCmpOp → Bool
is_equality Eq = true
is_equality (MaskedEq mask) = true
is_equality operator = false

abbrev pub fixes : (i j : ℕ) → Condition → Bool
fixes i j c = is_equality c.operator && compares i j c

-- Whether one of these rules compares the bit, and this one leaves it open.
abbrev pub is_open : (own : Rule) (rules : List Rule) → (i j : ℕ) → Bool
is_open own rules i j = if list_any (fixes i j) own then false else list_any (list_any (compares i j)) rules

-- How many of the first n numbers pass a test.
unfoldable pub count_below : (ℕ → Bool) → ℕ → ℕ
count_below p zero = 0
count_below p (suc n) = (if p n then 1 else 0) + count_below p n

-- How many bits of the six arguments are open.
abbrev pub open_bits : (own : Rule) (rules : List Rule) → ℕ
open_bits own rules = count_below (λ k. is_open own rules (k / 64) (k % 64)) 384

-- ---- what is said

-- What is said of a rule beside others, by looking at so many sets of calls: a call for which it holds and none of the others; or that one
-- of the others holds for each call for which it does; or nothing, as there are more sets.
abbrev pub Covers : TargetArch → (number : ℕ) → (own : Rule) (others : List Rule) → (most : ℕ) → Cover → Type 0
Covers arch number own others most (Escapes r) = IsCallOf arch number own r × (SomeHolds others r → ⊥)
Covers arch number own others most Covered = (s : List ℕ) → IsCallOf arch number own s → SomeHolds others s
Covers arch number own others most Undecided = most < 2 * 2 ^ open_bits own (own ∷ others)

-- ---- between the private functions

-- Bit j of argument i isn't known.
pub record IsUnknownAt (part : List Known) (i j : ℕ) : Type 0 where
  pub known : Known
  pub there : slice_get part i ≡ Some known
  pub is_unknown : bit_at known.mask j ≡ 0

-- So it is, and one of these rules compares it.
pub record IsOpenAt (part : List Known) (rules : List Rule) (i j : ℕ) : Type 0 where
  pub index : i < 6
  pub place : j < 64
  pub unknown : IsUnknownAt part i j
  pub compared : IsTrue (list_any (list_any (compares i j)) rules)

-- What is seen of a rule on those calls with known bits for which a rule `own` holds: that it holds for each, or for none; or a bit that
-- is open.
abbrev pub OnRule : (part : List Known) (own : Rule) → Rule → Seen → Type 0
OnRule part own rule Holds = (r : List ℕ) → IsRecord r → HasKnown part r → RuleHolds own r → RuleHolds rule r
OnRule part own rule Fails = (r : List ℕ) → IsRecord r → HasKnown part r → RuleHolds own r → RuleHolds rule r → ⊥
OnRule part own rule (Open i j) = IsOpenAt part (rule ∷ []) i j

-- The same of rules, of which one holds for each, or none for any.
abbrev pub OnRules : (part : List Known) (own : Rule) → List Rule → Seen → Type 0
OnRules part own others Holds = (r : List ℕ) → IsRecord r → HasKnown part r → RuleHolds own r → SomeHolds others r
OnRules part own others Fails = (r : List ℕ) → IsRecord r → HasKnown part r → RuleHolds own r → SomeHolds others r → ⊥
OnRules part own others (Open i j) = IsOpenAt part others i j

-- What comes of calls with known bits.
abbrev pub IsNext : (part : List Known) → (own : Rule) (others : List Rule) → Next → Type 0
IsNext part own others next.Done = (r : List ℕ) → IsRecord r → HasKnown part r → RuleHolds own r → SomeHolds others r
IsNext part own others next.Escapes = OnRule part [] own Holds × OnRules part own others Fails
IsNext part own others (next.Open i j) = IsOpenAt part (own ∷ others) i j

-- If the condition is an equality, its bits are known too.
pub record KnowsMore (known : Known) (c : Condition) (more : Known) : Type 0 where
  pub kept : (j : ℕ) → bit_at known.mask j ≡ 1 → bit_at more.mask j ≡ 1
  pub fixed : IsTrue (is_equality c.operator) → (j : ℕ) → bit_at (compared c) j ≡ 1 → bit_at more.mask j ≡ 1

-- The bits that a rule fixes are known.
pub record KnowsFixed (own : Rule) (part : List Known) : Type 0 where
  pub long : length part ≡ 6
  pub each : (i j : ℕ) (known : Known) → slice_get part i ≡ Some known → IsTrue (list_any (fixes i j) own) → bit_at known.mask j ≡ 1

-- A set came to those that are left in two parts, in which bit j of argument i is known too.
pub record AddsHalves (part : List Known) (i j : ℕ) (old new : List (List Known)) : Type 0 where
  pub known : Known
  pub there : slice_get part i ≡ Some known
  pub low : Known
  pub high : Known
  pub added : new ≡ old ++ set part i high ∷ [] ++ set part i low ∷ []
  pub cover : (x : ℕ) → HasBits known x → HasBits low x ⊎ HasBits high x
  pub low_kept : KeepsBits low
  pub high_kept : KeepsBits high
  pub low_mask : low.mask ≡ bit_or known.mask (2 ^ j)
  pub high_mask : high.mask ≡ bit_or known.mask (2 ^ j)
