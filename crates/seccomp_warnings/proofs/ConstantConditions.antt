-- For `always_holds` and `never_holds`: the numbers that tell whether a condition holds for all numbers, or for none.
use Rattle.std.proofs.Common.{◌≡◌, ◌≢◌, ◌≤◌, ◌-◌, ℕ, ◌<◌, ◌^◌, refl, sym, ap, ◌∙◌, arith, ⊎_elim}
use Rattle.std.specs.Prelude.{bit_and}
use Rattle.std.specs.Int.Bits.{and_zero_l, and_zero_r, xor_self, xor_add_and}
use Rattle.std.proofs.lemmas.Bool.{cases_lt}
use Rattle.seccompiler.specs.declared.backend.SeccompCmpOp.{SeccompCmpOp}
use Rattle.seccompiler.specs.declared.backend.SeccompCmpOp.TheVariants.{Eq, Ge, Gt, Le, Lt, MaskedEq, Ne}
use Rattle.seccompiler.specs.declared.backend.SeccompCmpArgLen.{SeccompCmpArgLen}
use Rattle.seccompiler.specs.declared.backend.SeccompCmpArgLen.TheVariants.{Dword, Qword}
use Rattle.seccompiler.specs.Policy.{Compares, operator_part, part_of}
use Rattle.seccomp_warnings.specs.AnyArgument.{last_of}

-- a number and itself under a mask
masked_self : (m : ℕ) → bit_and m m ≡ m
masked_self m = omega (arith, xor_self m, xor_add_and m m)

-- what is compared of 0, of 1, and of the greatest number
of_zero : (length : SeccompCmpArgLen) → part_of length 0 ≡ 0
of_zero Dword = refl
of_zero Qword = refl

of_one : (length : SeccompCmpArgLen) → part_of length 1 ≡ 1
of_one Dword = refl
of_one Qword = refl

below_most : (length : SeccompCmpArgLen) (x : ℕ) → x < 2 ^ 64 → part_of length x ≤ part_of length (2 ^ 64 - 1)
below_most Dword x small = omega arith
below_most Qword x small = omega (arith, small)

module _ (length : SeccompCmpArgLen) (v x : ℕ) (small : x < 2 ^ 64) where
  -- A condition with this operator and the value v holds for a number.
  abbrev Says : SeccompCmpOp → ℕ → Type 0
  Says o n = Compares (operator_part length o) (part_of length n) (part_of length v)

  pub for_all : (o : SeccompCmpOp) → Says o 0 → Says o 1 → Says o v → Says o (last_of o) → Says o x
  for_all Eq zero one own last = absurd (omega (arith, zero, one, of_zero length, of_one length))
  for_all Ne zero one own last = absurd (own refl)
  for_all Ge zero one own last = omega (arith, zero, of_zero length)
  for_all Gt zero one own last = absurd (omega (arith, own))
  for_all Le zero one own last = omega (arith, last, below_most length x small)
  for_all Lt zero one own last = absurd (omega (arith, own))
  for_all (MaskedEq m) zero one own last =
      let k = part_of length m in
      let nothing : bit_and (part_of length v) k ≡ 0 = sym zero ∙ ap (λ (n : ℕ). bit_and n k) (of_zero length) ∙ and_zero_l k in
      let none : k ≡ 0 = sym (masked_self k) ∙ last ∙ nothing in
      ap (bit_and (part_of length x)) none ∙ and_zero_r (part_of length x) ∙ sym nothing

  pub for_none : (o : SeccompCmpOp) → (Says o 0 → ⊥) → (Says o 1 → ⊥) → (Says o v → ⊥) → (Says o (2 ^ 64 - 1) → ⊥) → Says o x → ⊥
  for_none Eq zero one own last holds = own refl
  for_none Ne zero one own last holds = ⊎_elim
      (λ (above : 0 < part_of length v). zero (λ same. omega (arith, same, above, of_zero length)))
      (λ (not : part_of length v ≤ 0). one (λ same. omega (arith, same, not, of_one length)))
      (cases_lt 0 (part_of length v))
  for_none Ge zero one own last holds = own (omega arith)
  for_none Gt zero one own last holds = last (omega (arith, holds, below_most length x small))
  for_none Le zero one own last holds = own (omega arith)
  for_none Lt zero one own last holds = zero (omega (arith, holds, of_zero length))
  for_none (MaskedEq m) zero one own last holds = own refl
