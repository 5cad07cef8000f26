use Rattle.std.proofs.Common.{◌≡◌, ℕ, ◌↔◌, ◌^◌, ◌<◌, ap, sym, ◌∙◌, arith, false, rules}
use Rattle.std.specs.Prelude.{bit_and}
use Rattle.std.proofs.lemmas.Nat.{and_assoc}
use Rattle.seccompiler.specs.declared.backend.SeccompCmpOp.TheVariants.{MaskedEq}
use Rattle.seccompiler.specs.Policy.{Condition, part_of}
use Rattle.seccomp_compare.specs.Spans.{HoldsFor, Says}
use Rattle.seccomp_compare.specs.declared.spans.Span.{Span}
use Rattle.seccomp_compare.proofs.Masks.{mask_twice}
use Rattle.seccomp_compare.proofs.spans.span_of.Goals as goal

-- bits under a mask that have one value lie within bounds that are this value
masked : (c : Condition) (m size x : ℕ) (s : Span) → c.operator ≡ MaskedEq m
    → bit_and x size ≡ part_of c.arg_len x → bit_and m size ≡ part_of c.arg_len m → bit_and c.value size ≡ part_of c.arg_len c.value
    → s.is_outside ≡ false → s.mask ≡ bit_and m size → s.least ≡ bit_and (bit_and c.value size) (bit_and m size)
    → s.most ≡ bit_and (bit_and c.value size) (bit_and m size) → (Says s x ↔ HoldsFor c x)
masked c m size x s operator of_x of_m of_v inside mask least most =
    let bits : bit_and (part_of c.arg_len x) (part_of c.arg_len m) ≡ bit_and x s.mask =
    ap (λ n. bit_and n (part_of c.arg_len m)) (sym of_x) ∙ ap (bit_and (bit_and x size)) (sym of_m) ∙ mask_twice x m size
    ∙ and_assoc size x m ∙ ap (bit_and x) (sym mask) in
    let value : bit_and (part_of c.arg_len c.value) (part_of c.arg_len m) ≡ bit_and (bit_and c.value size) (bit_and m size) =
    ap (λ n. bit_and n (part_of c.arg_len m)) (sym of_v) ∙ ap (bit_and (bit_and c.value size)) (sym of_m) in
    rw inside (rw operator (
      λ within. omega (arith, bits, value, least, most, within.0, within.1),
      λ holds. (omega (arith, bits, value, least, most, holds), omega (arith, bits, value, least, most, holds)),
    ))

pub returns-in-MaskedEq-clause-same : goal.returns-in-MaskedEq-clause-same
returns-in-MaskedEq-clause-same c = λ x fits.
    let condition = c.args.condition.now in
    let m = c.in-MaskedEq.mask in
    let size = c.size_of-size.result in
    let span = c.spanning-in-MaskedEq.ensures in
    let parts : (n : ℕ) → n < 2 ^ 64 → bit_and n size ≡ part_of condition.arg_len n =
    λ n few. c.size_of-size.ensures.cuts n few ∙ ap (λ l. part_of l n) c.arg_len.ensures in
    let shape = c.spanning-in-MaskedEq.ensures in
    let bits : bit_and (bit_and c.value.result size) (bit_and m size) ≡ bit_and (bit_and condition.value size) (bit_and m size) =
    ap (λ n. bit_and (bit_and n size) (bit_and m size)) c.value.ensures in
    masked condition m size x c.spanning-in-MaskedEq.result (sym c.operator.ensures ∙ c.in-MaskedEq.is) (parts x fits)
    (parts m (search rules)) (parts condition.value (search rules)) (ap (λ (s : Span). s.is_outside) shape)
    (ap (λ (s : Span). s.mask) shape)
    (ap (λ (s : Span). s.least) shape ∙ bits) (ap (λ (s : Span). s.most) shape ∙ bits)
