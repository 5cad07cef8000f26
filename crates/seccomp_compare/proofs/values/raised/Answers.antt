use lib.Count.{count_leading_zeros}
use Rattle.std.proofs.Common.{◌≡◌, ℕ, ◌+◌, ◌-◌, ◌*◌, ◌%◌, ◌<◌, ◌≤◌, ◌^◌, sym, ◌∙◌, subst, arith, Option, Some, None}
use Rattle.std.proofs.Math.Nat.{mod-lt}
use Rattle.std.specs.Prelude.{bit_and, bit_xor, MatchOption, IfSome}
use Rattle.std.specs.Option.{SomeIff}
use Rattle.std.proofs.lemmas.Nat.{one_shl, pow_pos, xor_lt, and_le_l}
use Rattle.seccomp_compare.proofs.Masks.{raise_past, known_bit, wrong_bit, highest_bit, same_from_xor}
use Rattle.seccomp_compare.proofs.values.raised.Goals as goal

-- a sum that all of them reach, if it is a word
next_of : (k v least sum : ℕ) (o : Option ℕ) → SomeIff o (sum < 2 ^ 32) sum → ((u : ℕ) → bit_and u k ≡ v → least ≤ u → sum ≤ u)
    → MatchOption o ((u : ℕ) → u < 2 ^ 32 → bit_and u k ≡ v → least ≤ u → ⊥)
    (λ next. (u : ℕ) → u < 2 ^ 32 → bit_and u k ≡ v → least ≤ u → next ≤ u)
next_of k v least sum None made all = λ u fits has le. let h = all u has le in absurd (made (omega (arith, h, fits)))
next_of k v least sum (Some next) made all = λ u fits has le. let h = all u has le in omega (arith, h, made.1)

-- a sum above the least
above : (least sum : ℕ) (o : Option ℕ) → SomeIff o (sum < 2 ^ 32) sum → least < sum → IfSome o (λ next. least < next)
above least sum None made more = tt
above least sum (Some next) made more = omega (arith, more, made.1)

-- the number after, by the place of its bit
behind : (k v least j : ℕ) → bit_and k (2 ^ j) ≡ 2 ^ j → (bit_and least (2 ^ j) ≡ bit_and v (2 ^ j) → ⊥)
    → (u : ℕ) → bit_and u k ≡ v → least ≤ u → least - least % 2 ^ j + 2 ^ j ≤ u
behind k v least j known other u has le = raise_past u least j le (λ e. other (sym e ∙ known_bit u k v (2 ^ j) has known))

-- the place of the highest bit that is wrong
wrong_at : (k v least : ℕ) → least < 2 ^ 32 → v < 2 ^ 32 → bit_and v k ≡ v → (bit_and least k ≡ v → ⊥)
    → let j = 31 - count_leading_zeros 32 (bit_xor (bit_and least k) v) in
    (bit_and k (2 ^ j) ≡ 2 ^ j) × (bit_and least (2 ^ j) ≡ bit_and v (2 ^ j) → ⊥)
wrong_at k v least fits value_fits kept wrong =
    let w = bit_xor (bit_and least k) v in
    let small : bit_and least k < 2 ^ 32 = omega (arith, and_le_l least k, fits) in
    let none : w ≡ 0 → ⊥ = λ e. wrong (same_from_xor (bit_and least k) v e) in
    let some : 0 < w = omega (arith, none) in
    wrong_bit least k v _ kept (highest_bit w some (xor_lt 32 (bit_and least k) v small value_fits))

pub returns-clause-behind : goal.returns-clause-behind
returns-clause-behind c =
    let k = c.args.known in
    let v = c.args.value in
    let least = c.args.least in
    let j = c.saturating_sub-bit.result in
    let small : j < 32 = omega (arith, c.saturating_sub-bit.ensures) in
    let bit : 1 * 2 ^ j % 2 ^ 32 ≡ 2 ^ j = one_shl j 32 small in
    let wrong = wrong_at k v least c.ranges.least.fits c.ranges.value.fits c.requires.kept c.requires.wrong in
    let place = sym c.saturating_sub-bit.ensures in
    next_of k v least _ c.checked_add.result c.checked_add.ensures
    (subst (λ b. (u : ℕ) → bit_and u k ≡ v → least ≤ u → least - least % b + b ≤ u) (sym bit)
    (behind k v least j
    (subst (λ n. bit_and k (2 ^ n) ≡ 2 ^ n) place wrong.0)
    (subst (λ n. bit_and least (2 ^ n) ≡ bit_and v (2 ^ n) → ⊥) place wrong.1)))

pub returns-clause-greater : goal.returns-clause-greater
returns-clause-greater c =
    let j = c.saturating_sub-bit.result in
    let small : j < 32 = omega (arith, c.saturating_sub-bit.ensures) in
    let bit : 1 * 2 ^ j % 2 ^ 32 ≡ 2 ^ j = one_shl j 32 small in
    let rest = mod-lt c.args.least (pow_pos j) in
    above c.args.least _ c.checked_add.result c.checked_add.ensures
    (subst (λ b. c.args.least < c.args.least - c.args.least % b + b) (sym bit) (omega (arith, rest)))
