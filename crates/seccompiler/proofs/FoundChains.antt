-- What is found under a call number in chains with one more behind them, and the entries of a map of chains that are left.
use Rattle.std.proofs.Common.{◌≡◌, ◌≢◌, ℕ, ℤ, pos, List, [], ◌∷◌, ◌++◌, Some, None, cond, refl, sym, ap, ◌∙◌, subst, arith, append_assoc}
use Rattle.std.proofs.Common.{Vec, map}
use Rattle.std.proofs.lemmas.List.Elements.{All-head, All-tail}
use Rattle.std.proofs.lemmas.Bool.Decides.{nat_tests}
use Rattle.std.specs.Prelude.{All}
use Rattle.std.specs.BTreeMap.{is_at}
use Rattle.std.specs.Ordering.{int_cmp}
use Rattle.std.specs.declared.alloc.Global.{Global}
use Rattle.seccompiler.specs.Policy.{Rule, Chain, IsCallNumber, chain_under}

abbrev pub Entry : Type 0
Entry = ℤ × Chain

-- a chain that is found is found with one more behind
pub found_before : (chains : List Entry) (e : Entry) (a : ℕ) (chain : Chain) → chain_under chains a ≡ Some chain
    → chain_under (chains ++ e ∷ []) a ≡ Some chain
found_before [] e a chain h = cc
found_before (x ∷ chains) e a chain h = grind (arith, found_before chains e a chain)

-- where none is found, the one behind is tried
found_last : (chains : List Entry) (e : Entry) (a : ℕ) → chain_under chains a ≡ None
    → chain_under (chains ++ e ∷ []) a ≡ cond (is_at (int_cmp (pos a)) e.0) (Some e.1) None
found_last [] e a h = refl
found_last (x ∷ chains) e a h = grind (arith, found_last chains e a)

pub last_same : (chains : List Entry) (a : ℕ) (chain : Chain) → chain_under chains a ≡ None
    → chain_under (chains ++ (pos a, chain) ∷ []) a ≡ Some chain
last_same chains a chain none = grind (arith, found_last, nat_tests)

pub last_other : (chains : List Entry) (a n : ℕ) (chain : Chain) → a ≢ n → chain_under chains a ≡ None
    → chain_under (chains ++ (pos n, chain) ∷ []) a ≡ None
last_other chains a n chain differs none = rw (found_last chains (pos n, chain) a none) (grind (arith, nat_tests))

abbrev pub MapEntry : Type 0
MapEntry = ℤ × Vec Rule Global

-- the number of an entry that is left is a call number
key_of_rest : (done t : List MapEntry) (e : MapEntry) → All IsCallNumber (map (λ (x : MapEntry). x.0) (done ++ e ∷ t)) → IsCallNumber e.0
key_of_rest [] t e h = All-head IsCallNumber e.0 (map (λ (x : MapEntry). x.0) t) h
key_of_rest (x ∷ done) t e h = key_of_rest done t e (All-tail IsCallNumber x.0 (map (λ (y : MapEntry). y.0) (done ++ e ∷ t)) h)

pub key_fits : (entries done rest t : List MapEntry) (e : MapEntry) → rest ≡ e ∷ t → done ++ rest ≡ entries
    → All IsCallNumber (map (λ (x : MapEntry). x.0) entries) → IsCallNumber e.0
key_fits entries done rest t e er ee h = let same : done ++ e ∷ t ≡ entries = sym (ap (λ l. done ++ l) er) ∙ ee in
    key_of_rest done t e (subst (λ l. All IsCallNumber (map (λ (x : MapEntry). x.0) l)) (sym same) h)

pub rest_step : (entries done rest t : List MapEntry) (e : MapEntry) → rest ≡ e ∷ t → done ++ rest ≡ entries
    → (done ++ e ∷ []) ++ t ≡ entries
rest_step entries done rest t e er ee = append_assoc done (e ∷ []) t ∙ sym (ap (λ l. done ++ l) er) ∙ ee
