-- Lengths that stop at the greatest number that a machine's number holds.
use Rattle.std.proofs.Common.{List, ℤ, refl, map, Bor, Vec, Global, sum_by, ◌≡◌, ℕ, ◌+◌, ◌<◌, ◌≤◌, [], ◌∷◌, length, min, sym, ap, ◌∙◌}
use Rattle.std.proofs.Common.{arith}
use Rattle.std.proofs.lemmas.List.Sums.{sum_by-cons}
use Rattle.std.specs.Map.{values_of}
use Rattle.std.specs.Map.Iter.{deref}
use Rattle.seccompiler.specs.Policy.{Rule, Chain, Filter, chains_of}
use Rattle.seccompiler.specs.Layout.{chain_length, chains_length, counted_length, counted_length_of}

-- The length of chains that are lent.
abbrev pub lent_length : List (Bor (Vec Rule Global)) → ℕ
lent_length lent = sum_by (λ chain. chain_length chain.now.items) lent

-- The chains that a map lends are its chains.
lent_chains : (entries : List (ℤ × Vec Rule Global)) (lent : List (Bor (Vec Rule Global)))
    → map deref lent ≡ values_of entries → lent_length lent ≡ chains_length (chains_of entries)
lent_chains [] [] same = refl
lent_chains (e ∷ entries) (chain ∷ lent) same = let first : chain.now ≡ e.1 = cc in
    let rest : map deref lent ≡ values_of entries = cc in
    sum_by-cons (λ c. chain_length c.now.items) chain lent ∙ ap (λ v. chain_length v.items + lent_length lent) first
    ∙ ap (λ n. chain_length e.1.items + n) (lent_chains entries lent rest)
    ∙ sym (sum_by-cons (λ (c : ℤ × Chain). chain_length c.1) (e.0, e.1.items) (chains_of entries))
lent_chains _ _ same = cc

-- The counted length of a filter, as the map has its chains
pub counted_full : (entries : List (ℤ × Vec Rule Global)) (chains : List (ℤ × Chain))
    → chains_of entries ≡ chains → 0 < length entries → counted_length_of chains ≡ 5 + chains_length (chains_of entries)
counted_full [] chains e some = absurd (omega arith)
counted_full (x ∷ entries) chains e some = ap counted_length_of (sym e)

pub counted_empty : (entries : List (ℤ × Vec Rule Global)) (chains : List (ℤ × Chain))
    → chains_of entries ≡ chains → length entries ≡ 0 → counted_length_of chains ≡ 4
counted_empty [] chains e none = ap counted_length_of (sym e)
counted_empty (x ∷ entries) chains e none = absurd (omega arith)

-- All chains of a filter that has some.
pub capped_filter : (m : ℕ) (f : Filter) (entries : List (ℤ × Vec Rule Global)) (lent : List (Bor (Vec Rule Global))) (so_far : ℕ)
    → chains_of entries ≡ f.chains → (length entries ≡ 0 → ⊥) → map deref lent ≡ values_of entries
    → so_far ≡ min (5 + lent_length lent) m → so_far ≡ min (counted_length f) m
capped_filter m f entries lent so_far same some all first = first ∙ ap (λ n. min (5 + n) m) (lent_chains entries lent all)
    ∙ ap (λ n. min n m) (sym (counted_full entries f.chains same (omega arith)))

-- A filter that has none.
pub empty_filter : (m : ℕ) (f : Filter) (entries : List (ℤ × Vec Rule Global)) → 4 ≤ m
    → chains_of entries ≡ f.chains → length entries ≡ 0 → 4 ≡ min (counted_length f) m
empty_filter m f entries large same none = grind (arith, counted_empty)
