-- What one step of each instruction does, where the instruction stands at a place of a program.
use Rattle.std.proofs.Common.{◌≡◌, ℕ, ◌+◌, ◌<◌, ◌≤◌, ◌^◌, List, length, Some, refl, subst, arith, ◌⊎◌}
use Rattle.std.specs.Prelude.{slice_get, bit_and}
use Rattle.std.proofs.lemmas.Bool.{cases_lt, cases_eq}
use Rattle.std.proofs.lemmas.Nat.{and_le_l}
use Rattle.seccompiler.specs.declared.bpf.sock_filter.{sock_filter}
use Rattle.seccompiler.specs.Machine.{word_at, Does, loads, masks, jumps, Step, Goes}
use Rattle.seccompiler.specs.Code.{load, mask, jump, jump_equal, jump_greater, jump_at_least}
use Rattle.seccompiler.specs.Pieces.{Leads}

module _ (p : List sock_filter) (r : List ℕ) where
  step_of : {place a place' a' : ℕ} (i : sock_filter) → slice_get p place ≡ Some i → a < 2 ^ 32 → a' < 2 ^ 32 → Does i r place a place' a'
      → Step p r place a place' a'
  step_of i here before after does = record { instruction = i; here = here; before = before; after = after; does = does }

  pub on_load : (place a k x : ℕ) → slice_get p place ≡ Some (load k) → k + 4 ≤ length r
      → a < 2 ^ 32 → x < 2 ^ 32 → x ≡ word_at r k → Step p r place a (place + 1) x
  on_load place a k x here within small fits e = step_of (load k) here small fits (loads refl within refl e)

  pub on_mask : (place a k : ℕ) → slice_get p place ≡ Some (mask k) → a < 2 ^ 32 → Step p r place a (place + 1) (bit_and a k)
  on_mask place a k here small = step_of (mask k) here small (omega (arith, and_le_l a k)) (masks refl refl refl)

  pub on_equal : (place a k jt jf : ℕ) → slice_get p place ≡ Some (jump_equal k jt jf)
      → a < 2 ^ 32 → ((a ≡ k) × Step p r place a (place + 1 + jt) a) ⊎ ((a ≡ k → ⊥) × Step p r place a (place + 1 + jf) a)
  on_equal place a k jt jf here small = grind (arith, step_of, cases_eq)

  pub on_greater : (place a k jt jf : ℕ) → slice_get p place ≡ Some (jump_greater k jt jf)
      → a < 2 ^ 32 → ((k < a) × Step p r place a (place + 1 + jt) a) ⊎ ((a ≤ k) × Step p r place a (place + 1 + jf) a)
  on_greater place a k jt jf here small = grind (arith, step_of, cases_lt)

  pub on_at_least : (place a k jt jf : ℕ) → slice_get p place ≡ Some (jump_at_least k jt jf)
      → a < 2 ^ 32 → ((k ≤ a) × Step p r place a (place + 1 + jt) a) ⊎ ((a < k) × Step p r place a (place + 1 + jf) a)
  on_at_least place a k jt jf here small = grind (arith, step_of, cases_lt)

  pub on_jump : (place a k : ℕ) → slice_get p place ≡ Some (jump k) → a < 2 ^ 32 → Step p r place a (place + 1 + k) a
  on_jump place a k here small = step_of (jump k) here small small (jumps refl refl refl)

  -- a run from the first place, to the place where it arrives
  pub arrive : {a n place a' : ℕ} (to : ℕ) → Goes p r 0 a n place a' → place ≡ to → Leads p r 0 a to
  arrive {a} {n} {place} {a'} to g e = record { count = n; accumulator = a'; goes = subst (λ t. Goes p r 0 a n t a') e g }
