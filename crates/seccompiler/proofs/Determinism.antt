-- A program that ends on a record does so with one word and one number of steps.
use Rattle.std.proofs.Common.{◌≡◌, ◌≢◌, ℕ, ◌+◌, ◌-◌, ◌<◌, List, nat_lt, nat_le, bit_and, refl, arith, ⊎_elim}
use Rattle.std.proofs.lemmas.Bool.{cases_lt}
use Rattle.std.specs.Prelude.{◌==◌, if◌then◌else◌}
use Rattle.std.proofs.lemmas.Bool.Decides.{nat_tests}
use Rattle.seccompiler.specs.declared.bpf.sock_filter.{sock_filter}
use Rattle.seccompiler.specs.Machine.{word_at, Does, Step, Goes, stays, then_step, Ends}

-- Where an instruction leads.
abbrev place_after : sock_filter → ℕ → ℕ → ℕ
place_after i place a = if i.code == 0x05 then place + 1 + i.k
    else (if i.code == 0x15 then (if a == i.k then place + 1 + i.jt else (place + 1 + i.jf))
    else (if i.code == 0x25 then (if nat_lt i.k a then place + 1 + i.jt else (place + 1 + i.jf))
    else (if i.code == 0x35 then (if nat_le i.k a then place + 1 + i.jt else (place + 1 + i.jf)) else (place + 1))))

-- What an instruction leaves in the accumulator.
abbrev accumulator_after : sock_filter → List ℕ → ℕ → ℕ
accumulator_after i r a = if i.code == 0x20 then word_at r i.k else (if i.code == 0x54 then bit_and a i.k else a)

-- An instruction that does something leads to the place and leaves the accumulator that its fields tell, and it is no return.
told : (i : sock_filter) (r : List ℕ) (place a place' a' : ℕ) → Does i r place a place' a'
    → (place' ≡ place_after i place a) × (a' ≡ accumulator_after i r a) × (i.code ≢ 0x06)
told i r place a place' a' does = grind (arith, nat_tests)

-- A step from one place and accumulator leads to one place and accumulator.
step_only : (p : List sock_filter) (r : List ℕ) {place a place' a' at b at' b' : ℕ} → Step p r place a place' a'
    → Step p r at b at' b' → place ≡ at → a ≡ b → (place' ≡ at') × (a' ≡ b')
step_only p r s t here with_same = grind (arith, told)

-- So do equally many steps.
goes_only : (p : List sock_filter) (r : List ℕ) {place a n place' a' m place'' a'' : ℕ}
    → Goes p r place a n place' a' → Goes p r place a m place'' a'' → n ≡ m → (place' ≡ place'') × (a' ≡ a'')
goes_only p r stays stays equally_many = (refl, refl)
goes_only p r (then_step g s) (then_step h t) equally_many = let before = goes_only p r g h (omega arith) in
    step_only p r s t before.0 before.1
goes_only p r _ _ equally_many = absurd (omega arith)

-- A run goes on after each lesser number of steps.
goes_on_before : (p : List sock_filter) (r : List ℕ) {place a m place' a' : ℕ} (n : ℕ)
    → Goes p r place a m place' a' → n < m → (b : ℕ) × (c : ℕ) × (d : ℕ) × (e : ℕ) × Goes p r place a n b c × Step p r b c d e
goes_on_before p r n stays fewer = absurd (omega arith)
goes_on_before p r n (then_step {n = m} g s) fewer = ⊎_elim (λ before. goes_on_before p r n g before)
    (λ after. let here : m ≡ n = omega arith in (_, _, _, _, rw here at g, s)) (cases_lt n m)

-- A run that returns does not go on.
ends_no_later : (p : List sock_filter) (r : List ℕ) {n w m v : ℕ} → Ends p r n w → Ends p r m v → n < m → ⊥
ends_no_later p r {n} {w} {m} {v} e f fewer = let on = goes_on_before p r (n - 1) f.goes (omega arith) in
    let same = goes_only p r e.goes on.4 refl in let found : e.instruction ≡ on.5.instruction = cc (e.here, on.5.here, same.0) in
    (told on.5.instruction r _ _ _ _ on.5.does).2 (cc (found, e.returns))

-- A program that ends on a record does so with one word and one number of steps.
pub ends_only : (p : List sock_filter) (r : List ℕ) {n w m v : ℕ} → Ends p r n w → Ends p r m v → (n ≡ m) × (w ≡ v)
ends_only p r {n} {w} {m} {v} e f = let no_later : n < m → ⊥ = ends_no_later p r e f in
    let no_sooner : m < n → ⊥ = ends_no_later p r f e in let as_many : n ≡ m = omega arith in
    let fewer : n - 1 ≡ m - 1 = omega arith in let same = goes_only p r e.goes f.goes fewer in
    (as_many, cc (e.here, f.here, e.value, f.value, same.0))
