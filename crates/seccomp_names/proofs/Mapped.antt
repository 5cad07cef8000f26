-- For `called_in` and `name_in`: one element of a list, and what a function makes of all of them.
use Rattle.std.proofs.Common.{ℕ, zero, suc, ◌<◌, List, [], ◌∷◌, length, get_or, refl, arith}
use Rattle.std.specs.Prelude.{Any, Contains, map}

-- What holds of what f makes of one element holds of some of what it makes of all.
pub any_at : {X Y : Type 0} (f : X → Y) (Q : Y → Type 0) (xs : List X) (i : ℕ) (d : X) → i < length xs → Q (f (get_or xs i d))
    → Any Q (map f xs)
any_at f Q [] i d within has = absurd (omega arith)
any_at f Q (x ∷ xs) zero d within has = (0, f x, omega arith, refl, has)
any_at f Q (x ∷ xs) (suc i) d within has =
    let rest = any_at f Q xs i d (omega arith) has in
    let less = rest.2 in
    (suc rest.0, rest.1, omega arith, rest.3, rest.4)

-- What f makes of one element is among what it makes of all.
pub contains_at : {X Y : Type 0} (f : X → Y) (xs : List X) (i : ℕ) (d : X) → i < length xs → Contains (map f xs) (f (get_or xs i d))
contains_at f [] i d within = absurd (omega arith)
contains_at f (x ∷ xs) zero d within = (zero, omega arith, refl)
contains_at f (x ∷ xs) (suc i) d within =
    let rest = contains_at f xs i d (omega arith) in
    let less = rest.1 in
    (suc rest.0, omega arith, rest.2)
