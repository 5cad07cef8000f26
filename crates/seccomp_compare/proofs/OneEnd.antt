-- A program that ends on a record does so with one word and one number of steps.
use Rattle.std.proofs.Common.{◌≡◌, ◌≢◌, ℕ, suc, ◌+◌, List, nat_lt, nat_le, bit_and, refl, sym, ap, ◌∙◌, arith}
use Rattle.std.proofs.lemmas.Bool.Decides.{nat_tests}
use Rattle.std.specs.Prelude.{◌==◌, if◌then◌else◌}
use Rattle.seccompiler.specs.declared.bpf.sock_filter.{sock_filter}
use Rattle.seccompiler.specs.Machine as of_seven
use Rattle.seccompiler.specs.Machine.{word_at}
use Rattle.seccomp_compare.specs.Machine.{Does, as_of_seven, has_bits, has_no_bits, EndsFrom, returns, goes_on}

-- Where an instruction leads.
abbrev place_after : sock_filter → List ℕ → ℕ → ℕ → ℕ
place_after i r place a =
    if i.code == 0x05 then place + 1 + i.k
    else (if i.code == 0x15 then (if a == i.k then place + 1 + i.jt else (place + 1 + i.jf))
    else (if i.code == 0x25 then (if nat_lt i.k a then place + 1 + i.jt else (place + 1 + i.jf))
    else (if i.code == 0x35 then (if nat_le i.k a then place + 1 + i.jt else (place + 1 + i.jf))
    else (if i.code == 0x45 then (if bit_and a i.k == 0 then place + 1 + i.jf else (place + 1 + i.jt))
    else (place + 1)))))

-- What an instruction leaves in the accumulator.
abbrev accumulator_after : sock_filter → List ℕ → ℕ → ℕ
accumulator_after i r a = if i.code == 0x20 then word_at r i.k else (if i.code == 0x54 then bit_and a i.k else a)

-- An instruction leads to the place that its fields and the accumulator name, leaves this in the accumulator, and is no
-- return.
does_so : (i : sock_filter) (r : List ℕ) (place a p b : ℕ) → Does i r place a p b
    → (p ≡ place_after i r place a) × (b ≡ accumulator_after i r a) × (i.code ≢ 0x06)
does_so i r place a p b (as_of_seven (of_seven.loads code test to same)) =
    (grind (arith, nat_tests), grind (arith, nat_tests), λ returns. omega arith)
does_so i r place a p b (as_of_seven (of_seven.masks code to same)) =
    (grind (arith, nat_tests), grind (arith, nat_tests), λ returns. omega arith)
does_so i r place a p b (as_of_seven (of_seven.jumps code to same)) =
    (grind (arith, nat_tests), grind (arith, nat_tests), λ returns. omega arith)
does_so i r place a p b (as_of_seven (of_seven.is_equal code test to same)) =
    (grind (arith, nat_tests), grind (arith, nat_tests), λ returns. omega arith)
does_so i r place a p b (as_of_seven (of_seven.is_not_equal code test to same)) =
    (grind (arith, nat_tests), grind (arith, nat_tests), λ returns. omega arith)
does_so i r place a p b (as_of_seven (of_seven.is_greater code test to same)) =
    (grind (arith, nat_tests), grind (arith, nat_tests), λ returns. omega arith)
does_so i r place a p b (as_of_seven (of_seven.is_not_greater code test to same)) =
    (grind (arith, nat_tests), grind (arith, nat_tests), λ returns. omega arith)
does_so i r place a p b (as_of_seven (of_seven.is_at_least code test to same)) =
    (grind (arith, nat_tests), grind (arith, nat_tests), λ returns. omega arith)
does_so i r place a p b (as_of_seven (of_seven.is_less code test to same)) =
    (grind (arith, nat_tests), grind (arith, nat_tests), λ returns. omega arith)
does_so i r place a p b (has_bits code test to same) =
    (grind (arith, nat_tests), grind (arith, nat_tests), λ returns. omega arith)
does_so i r place a p b (has_no_bits code test to same) =
    (grind (arith, nat_tests), grind (arith, nat_tests), λ returns. omega arith)

-- a program that ends from a place on does so in one way
pub ends_only : (p : List sock_filter) (r : List ℕ) {place a n w at b m v : ℕ} → EndsFrom p r place a n w → EndsFrom p r at b m v
    → place ≡ at → a ≡ b → (n ≡ m) × (w ≡ v)
ends_only p r (returns i here code) (returns j there _) same alike =
    let is : i ≡ j = cc (here, there, same) in
    (refl, ap (λ (k : sock_filter). k.k) is)
ends_only p r (returns i here code) (goes_on j there does e) same alike =
    let is : i ≡ j = cc (here, there, same) in
    absurd ((does_so j r _ _ _ _ does).2 (cc (is, code)))
ends_only p r (goes_on i here does e) (returns j there code) same alike =
    let is : i ≡ j = cc (here, there, same) in
    absurd ((does_so i r _ _ _ _ does).2 (cc (is, code)))
ends_only p r {at = at} {b = b} (goes_on {place' = place'} {a' = a'} i here does e)
    (goes_on {place' = at'} {a' = b'} j there does' f) same alike =
    let is : i ≡ j = cc (here, there, same) in
    let one = does_so j r at b place' a' (rw (is, same, alike) at does) in
    let other = does_so j r at b at' b' does' in
    let rest = ends_only p r e f (one.0 ∙ sym other.0) (one.1 ∙ sym other.1) in
    (ap suc rest.0, rest.1)
