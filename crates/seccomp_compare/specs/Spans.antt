-- What conditions say of arguments, in one form.
use Rattle.std.specs.Prelude.{◌≡◌, ℕ, ◌≤◌, Bool, true, false, bit_and}
use Rattle.seccompiler.specs.Policy.{Compares, Condition, operator_part, part_of}
use Rattle.seccomp_compare.specs.declared.spans.Span.{Span}

-- The number's bits under the mask lie within the bounds.
abbrev pub LiesWithin : Span → ℕ → Type 0
LiesWithin s x = (s.least ≤ bit_and x s.mask) × (bit_and x s.mask ≤ s.most)

-- The span has one value of the bits.
abbrev pub IsPoint : Span → Type 0
IsPoint s = (s.is_outside ≡ false) × (s.least ≡ s.most)

-- The number is one of the span.
abbrev pub Says : Span → ℕ → Type 0
Says s x = by s.is_outside
  where
    by : Bool → Type 0
    by true = LiesWithin s x → ⊥
    by false = LiesWithin s x

-- The condition holds for this number of its argument.
abbrev pub HoldsFor : Condition → ℕ → Type 0
HoldsFor c x = Compares (operator_part c.arg_len c.operator) (part_of c.arg_len x) (part_of c.arg_len c.value)
