-- For `SeccompRule::code_len` and `SeccompRule::write`: how the running offset of the code follows the groups of a rule's conditions.
use Rattle.std.proofs.Common.{◌≡◌, ℕ, suc, ◌+◌, ◌<◌, ◌≤◌, List, [], ◌∷◌, ◌++◌, length, sym, ap, ◌∙◌, arith, length-append, append_assoc}
use Rattle.std.proofs.Common.{append-nil}
use Rattle.std.proofs.lemmas.Bool.Decides.{nat_tests}
use Rattle.seccompiler.specs.Policy.{Condition, size_of}
use Rattle.seccompiler.specs.Layout.{greatest_offset, total_size, groups_from, groups_of, relays}
use Rattle.seccompiler.proofs.rule.RuleCode.{total_more}

-- The cut of the conditions so far: k groups are closed, and the one that is begun has offset o.
pub data Cutting (q : List Condition) (o k : ℕ) : Type 0 where
  none : q ≡ [] → o ≡ 1 → k ≡ 0 → Cutting q o k
  begun : (groups : List (List Condition)) (group : List Condition)
      → ((rest : List Condition) → groups_of (q ++ rest) ≡ groups ++ groups_from group rest)
      → o ≡ 1 + total_size group → k ≡ length groups → Cutting q o k

-- a group goes on
pub goes_into : (group rest : List Condition) (c : Condition) → total_size group < greatest_offset
    → groups_from group (c ∷ rest) ≡ groups_from (group ++ c ∷ []) rest
goes_into group rest c few = grind (arith, nat_tests)

-- a group closes
pub closes_at : (group rest : List Condition) (c : Condition) → greatest_offset ≤ total_size group
    → groups_from group (c ∷ rest) ≡ group ∷ groups_from (c ∷ []) rest
closes_at group rest c many = grind (arith, nat_tests)

-- one condition more, in the group that is begun
pub cutting_more : (q : List Condition) (o k : ℕ) (c : Condition) → o ≤ greatest_offset
    → Cutting q o k → Cutting (q ++ c ∷ []) (o + size_of c) k
cutting_more q o k c room (none e eo ek) =
    begun [] (c ∷ []) (λ rest. ap (λ l. groups_of ((l ++ c ∷ []) ++ rest)) e) (omega (arith, total_more [] c)) ek
cutting_more q o k c room (begun groups group f eo ek) = begun groups (group ++ c ∷ [])
    (λ rest. ap groups_of (append_assoc q (c ∷ []) rest) ∙ f (c ∷ rest) ∙ ap (λ l. groups ++ l) (goes_into group rest c (omega arith)))
    (omega (arith, total_more group c)) ek

-- one condition more, in a group of its own
pub cutting_relay : (q : List Condition) (o k : ℕ) (c : Condition) → greatest_offset < o
    → Cutting q o k → Cutting (q ++ c ∷ []) (1 + size_of c) (suc k)
cutting_relay q o k c full (none e eo ek) = absurd (omega arith)
cutting_relay q o k c full (begun groups group f eo ek) = begun (groups ++ group ∷ []) (c ∷ [])
    (λ rest. ap groups_of (append_assoc q (c ∷ []) rest) ∙ f (c ∷ rest) ∙ ap (λ l. groups ++ l) (closes_at group rest c (omega arith))
    ∙ sym (append_assoc groups (group ∷ []) (groups_from (c ∷ []) rest)))
    (omega (arith, total_more [] c)) (omega (arith, length-append groups (group ∷ [])))

-- the relays at the end
pub relays_are : (q : List Condition) (o k : ℕ) → 1 ≤ length q → Cutting q o k → k ≡ relays q
relays_are q o k some (none e eo ek) = absurd (let l : length q ≡ 0 = ap length e in omega arith)
relays_are q o k some (begun groups group f eo ek) =
    let all : groups_of q ≡ groups ++ group ∷ [] = ap groups_of (sym (append-nil q)) ∙ f [] in
    omega (arith, ap length all, length-append groups (group ∷ []))

-- behind a group that is begun there is a group
some_groups : (group rest : List Condition) → 1 ≤ length (groups_from group rest)
some_groups group [] = omega arith
some_groups group (c ∷ rest) = grind (arith, some_groups (c ∷ []) rest, some_groups (group ++ c ∷ []) rest)

-- no more relays stand so far than the whole rule has
pub relays_so_far : (q rest : List Condition) (o k : ℕ) → Cutting q o k → k ≤ relays (q ++ rest)
relays_so_far q rest o k h = grind (arith, length-append, some_groups)

-- nor with the one that comes in front of a further condition
pub relays_so_far_full : (q rest : List Condition) (o k : ℕ) (c : Condition) → greatest_offset < o
    → Cutting q o k → suc k ≤ relays (q ++ c ∷ rest)
relays_so_far_full q rest o k c full h = grind (arith, closes_at, length-append, some_groups)
