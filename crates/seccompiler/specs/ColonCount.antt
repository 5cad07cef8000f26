-- Colons outside strings, counted byte by byte from the front. It ties the parts of the count, and no public contract names it.
use Rattle.std.specs.Prelude.{ℕ, ◌+◌, ◌==◌, List, [], ◌∷◌, cond, if◌then◌else◌}

-- So many colons, and those that stand outside strings: counted from outside, in a string, and after a backslash.
abbrev mutual
  pub from_outside : ℕ → List ℕ → ℕ
  from_outside n [] = n
  from_outside n (b ∷ bs) = if b == 34 then from_inside n bs else from_outside (n + cond (b == 58) 1 0) bs

  pub from_inside : ℕ → List ℕ → ℕ
  from_inside n [] = n
  from_inside n (b ∷ bs) = if b == 34 then from_outside n bs else (if b == 92 then from_escaped n bs else from_inside n bs)

  pub from_escaped : ℕ → List ℕ → ℕ
  from_escaped n [] = n
  from_escaped n (b ∷ bs) = from_inside n bs
