-- Lists of what is read: one, and several with a last one.
use Rattle.seccomptool.proofs.Common.{[], ◌++◌, ◌+◌, ◌-◌, ◌<◌, ◌∙◌, ◌∷◌, ◌≡◌, ◌≤◌, Layer, List, ap, arith, get_or, length, sym, take}
use Rattle.seccomptool.proofs.Common.{take_all, take_more}

pub one_layer : (layers : List Layer) (x : Layer) → 1 ≤ length layers → length layers < 2 → x ≡ get_or layers 0 x → layers ≡ x ∷ []
one_layer [] x some few is = absurd (omega (arith, some))
one_layer (y ∷ []) x some few is = cc
one_layer (y ∷ z ∷ rest) x some few is = absurd (omega (arith, few))

-- All but the last, and the last.
pub front_and_last : (xs : List Layer) (x : Layer) → 1 ≤ length xs → x ≡ get_or xs (length xs - 1) x
    → xs ≡ take (length xs - 1) xs ++ x ∷ []
front_and_last xs x some is =
    let more = take_more xs (length xs - 1) x (omega (arith, some)) in
    sym (take_all (length xs - 1 + 1) xs (omega (arith, some))) ∙ more ∙ ap (λ (last : Layer). take (length xs - 1) xs ++ last ∷ []) (sym
    is)
