-- What the code of a condition and the code of a rule promise to the code around them.
use Rattle.std.specs.Prelude.{◌≡◌, ℕ, ◌+◌, ◌^◌, ◌<◌, ◌⊎◌, List, length, ◌%◌, ◌≤◌, Some, slice_get}
use Rattle.seccompiler.specs.declared.bpf.sock_filter.{sock_filter}
use Rattle.seccompiler.specs.Machine.{IsRecord, Goes, AreInRange}
use Rattle.seccompiler.specs.Policy.{Condition, Holds, size_of, Rule, RuleHolds}
use Rattle.seccompiler.specs.Layout.{relays, rule_length}

-- An instruction that may stand at this place of a piece whose jumps lead at most to m, and does not return.
pub data IsInside (i : sock_filter) (place m : ℕ) : Type 0 where
  inside_load : i.code ≡ 0x20 → i.k % 4 ≡ 0 → i.k ≤ 60 → IsInside i place m
  inside_mask : i.code ≡ 0x54 → IsInside i place m
  inside_jump : i.code ≡ 0x05 → place + 1 + i.k ≤ m → IsInside i place m
  inside_equal : i.code ≡ 0x15 → place + 1 + i.jt ≤ m → place + 1 + i.jf ≤ m → IsInside i place m
  inside_greater : i.code ≡ 0x25 → place + 1 + i.jt ≤ m → place + 1 + i.jf ≤ m → IsInside i place m
  inside_at_least : i.code ≡ 0x35 → place + 1 + i.jt ≤ m → place + 1 + i.jf ≤ m → IsInside i place m

-- A piece of code without a return, whose jumps lead at most to m.
pub record IsClosed (piece : List sock_filter) (m : ℕ) : Type 0 where
  pub each : (place : ℕ) (i : sock_filter) → slice_get piece place ≡ Some i → IsInside i place m

-- A run leads from a place and an accumulator to a place.
pub record Leads (piece : List sock_filter) (r : List ℕ) (place a place' : ℕ) : Type 0 where
  pub count : ℕ
  pub accumulator : ℕ
  pub goes : Goes piece r place a count place' accumulator

-- Entered at its first place, the piece leaves at its end if the fact holds, and d places further if it does not; one of the two is so.
abbrev pub Exits : List sock_filter → ℕ → List ℕ → ℕ → Type 0 → Type 0
Exits piece d r a fact = (fact × Leads piece r 0 a (length piece)) ⊎ ((fact → ⊥) × Leads piece r 0 a (length piece + d))

-- The code of a condition at offset d: as long as the condition's size, closed, and with two exits.
pub record IsConditionCode (c : Condition) (d : ℕ) (code : List sock_filter) : Type 0 where
  pub long : length code ≡ size_of c
  pub ranges : AreInRange code
  pub closed : IsClosed code (length code + d)
  pub enters : (r : List ℕ) → IsRecord r → (a : ℕ) → a < 2 ^ 32 → Exits code d r a (Holds c r)

-- The code of a rule without its return. Entered at its first place it leaves at its end if the rule holds, and one
-- place further if not; entered at its second place it leaves two places after its end, with the accumulator kept.
pub record IsRuleCode (q : Rule) (code : List sock_filter) : Type 0 where
  pub long : length code ≡ rule_length q
  pub ranges : AreInRange code
  pub closed : IsClosed code (length code + 2)
  pub enters : (r : List ℕ) → IsRecord r → (a : ℕ) → a < 2 ^ 32 → Exits code 1 r a (RuleHolds q r)
  pub skips : (r : List ℕ) (a : ℕ) → a < 2 ^ 32 → Goes code r 1 a (1 + relays q) (length code + 2) a
