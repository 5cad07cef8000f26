-- Between the private functions of `defaults`: the greatest number that is named.
use Rattle.std.specs.Prelude.{◌≡◌, ◌<◌, ◌≤◌, ◌⊎◌, ℕ, Bool, false, Option, Some, None, nat_lt}

-- It is the greatest number of which this holds; 0 if none has it. It is below the end.
pub record IsGreatest (end : ℕ) (P : ℕ → Type 0) (g : ℕ) : Type 0 where
  pub most : (n : ℕ) → P n → n ≤ g
  pub own : (g ≡ 0) ⊎ P g
  pub small : g < end

-- The number is above it, if there is one.
abbrev pub is_above : Option ℕ → ℕ → Bool
is_above None n = false
is_above (Some g) n = nat_lt g n
