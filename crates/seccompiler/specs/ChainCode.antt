-- The jumps that tie the conditions of a rule together, and what the code of rules with their returns, of a chain and of a
-- filter's chains promises to the code around it.
use Rattle.std.specs.Prelude.{◌≡◌, ◌≢◌, ℕ, ℤ, ◌+◌, ◌^◌, ◌<◌, ◌⊎◌, List, [], ◌∷◌, length, Any, Some, None, slice_get, sum_by, nat_lt}
use Rattle.std.specs.Prelude.{if◌then◌else◌}
use Rattle.seccompiler.specs.declared.bpf.sock_filter.{sock_filter}
use Rattle.seccompiler.specs.Code.{jump}
use Rattle.seccompiler.specs.Machine.{IsRecord, Goes, AreInRange}
use Rattle.seccompiler.specs.Pieces.{IsInside, Leads}
use Rattle.seccompiler.specs.Policy.{Chain, RuleHolds, ChainMatches, chain_under}
use Rattle.seccompiler.specs.Layout.{greatest_offset, rule_steps, chain_length, chain_steps, chains_length, chains_steps, rules_length}

-- The three jumps of a relay in front of code whose failure exit is o places after them.
abbrev pub relay_code : ℕ → List sock_filter
relay_code o = jump 2 ∷ jump (o + 1) ∷ jump (o + 1) ∷ []

-- The relay that a further condition needs at this offset, if any.
abbrev pub relay_front : ℕ → List sock_filter
relay_front o = if nat_lt greatest_offset o then relay_code o else []

-- The offset after which the further condition then stands.
abbrev pub offset_behind : ℕ → ℕ
offset_behind o = if nat_lt greatest_offset o then 1 else o

-- A run from a place and an accumulator returns this word, after exactly so many steps and the return.
pub record ReturnsAfter (p : List sock_filter) (r : List ℕ) (place a count w : ℕ) : Type 0 where
  pub to : ℕ
  pub accumulator : ℕ
  pub instruction : sock_filter
  pub goes : Goes p r place a count to accumulator
  pub here : slice_get p to ≡ Some instruction
  pub returns : instruction.code ≡ 0x06
  pub value : instruction.k ≡ w

-- It does so after some number of steps.
abbrev pub Returns : List sock_filter → List ℕ → ℕ → ℕ → ℕ → Type 0
Returns p r place a w = (count : ℕ) × ReturnsAfter p r place a count w

-- Each instruction returns, or may stand in a piece whose jumps lead at most to m.
pub record IsBlock (p : List sock_filter) (m : ℕ) : Type 0 where
  pub each : (place : ℕ) (i : sock_filter) → slice_get p place ≡ Some i → (IsInside i place m) ⊎ (i.code ≡ 0x06)

-- Entered at its first place the code returns the first word if the fact holds, and the second if it does not; one of the two is so.
abbrev pub ReturnsBy : List sock_filter → ℕ → ℕ → List ℕ → ℕ → Type 0 → Type 0
ReturnsBy code matched mismatch r a fact = (fact × Returns code r 0 a matched) ⊎ ((fact → ⊥) × Returns code r 0 a mismatch)

-- Entered at its first place the code returns the word if the fact holds, and leaves at its end if it does not; one of the two is so.
abbrev pub ReturnsOrLeaves : List sock_filter → ℕ → List ℕ → ℕ → Type 0 → Type 0
ReturnsOrLeaves code w r a fact = (fact × Returns code r 0 a w) ⊎ ((fact → ⊥) × Leads code r 0 a (length code))

-- The code of rules, each with its return: entered at its first place it returns if some rule holds, and leaves at
-- its end if none does; entered at its second place it leaves one place after its end, with the accumulator kept.
pub record IsRulesCode (chain : Chain) (w : ℕ) (code : List sock_filter) : Type 0 where
  pub long : length code ≡ rules_length chain
  pub ranges : AreInRange code
  pub block : IsBlock code (length code + 1)
  pub enters : (r : List ℕ) → IsRecord r → (a : ℕ) → a < 2 ^ 32 → ReturnsOrLeaves code w r a (Any (λ q. RuleHolds q r) chain)
  pub skips : (r : List ℕ) (a : ℕ) → a < 2 ^ 32 → Goes code r 1 a (sum_by rule_steps chain) (length code + 1) a

-- The code of a chain: entered with its call number it returns one of the two words; with another number it leaves at
-- its end, with the accumulator kept.
pub record IsChainCode (number : ℕ) (chain : Chain) (mismatch matched : ℕ) (code : List sock_filter) : Type 0 where
  pub long : length code ≡ chain_length chain
  pub ranges : AreInRange code
  pub block : IsBlock code (length code)
  pub enters : (r : List ℕ) → IsRecord r → ReturnsBy code matched mismatch r number (ChainMatches chain r)
  pub passes : (r : List ℕ) (a : ℕ) → a < 2 ^ 32 → a ≢ number → Goes code r 0 a (chain_steps chain) (length code) a

-- What the code of chains does with a call number: it returns a word if there is a chain, and leaves at its end if there is none.
pub data Dispatches (chains : List (ℤ × Chain)) (mismatch matched : ℕ) (code : List sock_filter) (r : List ℕ) (a : ℕ) : Type 0 where
  in_chain : (chain : Chain) → chain_under chains a ≡ Some chain → ReturnsBy code matched mismatch r a (ChainMatches chain r)
      → Dispatches chains mismatch matched code r a
  no_chain : chain_under chains a ≡ None → Goes code r 0 a (chains_steps chains) (length code) a
      → Dispatches chains mismatch matched code r a

-- The code of the chains of a filter, entered with the call number in the accumulator.
pub record IsChainsCode (chains : List (ℤ × Chain)) (mismatch matched : ℕ) (code : List sock_filter) : Type 0 where
  pub long : length code ≡ chains_length chains
  pub ranges : AreInRange code
  pub block : IsBlock code (length code)
  pub dispatches : (r : List ℕ) → IsRecord r → (a : ℕ) → a < 2 ^ 32 → Dispatches chains mismatch matched code r a
