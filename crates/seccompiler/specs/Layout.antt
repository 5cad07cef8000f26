-- How long the program of a filter is in the linear layout, and how many steps a call without a chain takes, as sums.
use Rattle.std.specs.Prelude.{ℕ, ◌≡◌, ◌-◌, ◌<◌, ◌≤◌, List, [], ◌∷◌, ◌++◌, length, All, sum_by, nat_le, if◌then◌else◌, ℤ, ◌+◌, ◌*◌}
use Rattle.std.specs.List.{flat_map}
use Rattle.seccompiler.specs.Policy.{Condition, size_of, Rule, Chain, Filter}

-- The greatest offset of its failure exit at which any condition's jumps fit 8 bits. A group of conditions closes as
-- soon as they take so many instructions.
abbrev pub greatest_offset : ℕ
greatest_offset = 248

-- ---- how the conditions of a rule fall into groups, between which stand relay jumps

-- How many instructions the conditions take.
abbrev pub total_size : List Condition → ℕ
total_size q = sum_by size_of q

-- No proper front of the group has a size of the border or more.
abbrev pub ClosesLate : List Condition → Type 0
ClosesLate group = (front back : List Condition) (c : Condition) → group ≡ front ++ c ∷ back → total_size front < greatest_offset

-- The conditions, in order, cut into groups: none is empty, no proper front of a group has a size of the border or more,
-- and every group but the last has.
pub record IsCutIntoGroups (q : List Condition) (groups : List (List Condition)) : Type 0 where
  pub joined : flat_map (λ group. group) groups ≡ q
  pub some : All (λ group. 1 ≤ length group) groups
  pub late : All ClosesLate groups
  pub full : (front back : List (List Condition)) (group next : List Condition) → groups ≡ front ++ group ∷ next ∷ back
      → greatest_offset ≤ total_size group

-- The groups of a group that is begun and the conditions after it.
abbrev pub groups_from : List Condition → List Condition → List (List Condition)
groups_from group [] = group ∷ []
groups_from group (c ∷ q) =
    if nat_le greatest_offset (total_size group) then group ∷ groups_from (c ∷ []) q else groups_from (group ++ c ∷ []) q

-- The groups of a rule's conditions.
abbrev pub groups_of : List Condition → List (List Condition)
groups_of [] = []
groups_of (c ∷ q) = groups_from (c ∷ []) q

-- These groups are a cut of the conditions, and the only one.
pub record IsOnlyCut (q : List Condition) (groups : List (List Condition)) : Type 0 where
  pub cut : IsCutIntoGroups q groups
  pub only : (others : List (List Condition)) → IsCutIntoGroups q others → others ≡ groups

-- How many relays a rule has: one between each two groups.
abbrev pub relays : List Condition → ℕ
relays q = length (groups_of q) - 1

-- ---- lengths and steps

-- The instructions of a rule: two jumps in front, its conditions, and three jumps for each relay.
abbrev pub rule_length : Rule → ℕ
rule_length q = 2 + total_size q + 3 * relays q

-- How many instructions the rules of a chain take, each with its return.
abbrev pub rules_length : Chain → ℕ
rules_length chain = sum_by (λ rule. rule_length rule + 1) chain

-- The instructions of a chain: without rules its test, two jumps of an entry and two returns; else its test, its rules and its last return.
abbrev pub chain_length : Chain → ℕ
chain_length [] = 5
chain_length (q ∷ chain) = 2 + rules_length (q ∷ chain)

-- The counted length of the chains.
abbrev pub chains_length : List (ℤ × Chain) → ℕ
chains_length chains = sum_by (λ (e : ℤ × Chain). chain_length e.1) chains

-- The counted length of a filter: how many instructions its program has, which are the three of the guard, which kill the
-- process on another architecture, and the last return; and if it has chains, theirs and the load of the call number. It has no limit.
abbrev pub counted_length_of : List (ℤ × Chain) → ℕ
counted_length_of [] = 4
counted_length_of (e ∷ chains) = 5 + chains_length (e ∷ chains)

abbrev pub counted_length : Filter → ℕ
counted_length f = counted_length_of f.chains

-- The steps past a rule: one jump, and one for each relay.
abbrev pub rule_steps : Rule → ℕ
rule_steps q = 1 + relays q

-- The steps past a chain of another call number.
abbrev pub chain_steps : Chain → ℕ
chain_steps [] = 2
chain_steps (q ∷ chain) = 1 + sum_by rule_steps (q ∷ chain)

-- The steps past the chains.
abbrev pub chains_steps : List (ℤ × Chain) → ℕ
chains_steps chains = sum_by (λ (e : ℤ × Chain). chain_steps e.1) chains

-- The passing steps of a filter that has chains: how many steps its program takes on a record of its architecture
-- whose call number has no chain. The two loads and the test in front and the return are four more.
abbrev pub passing_steps : Filter → ℕ
passing_steps f = 4 + chains_steps f.chains
