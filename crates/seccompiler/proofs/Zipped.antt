-- Two lists of which each element of one fits that of the other.
use Rattle.std.proofs.Common.{◌≡◌, ◌<◌, List, [], ◌∷◌, length, get_or, subst, arith}
use Rattle.std.specs.Prelude.{Any}
use Rattle.std.specs.List.{AllZip}
use Rattle.std.proofs.lemmas.List.{get_or_default}
use Rattle.std.proofs.lemmas.List.Elements.{AllZip-get_or, length_all_zip}

-- So they do the other way round, by the converse relation.
pub all_zip_back : {X : Type 0} (R S : X → X → Type 0) (xs ys : List X) → ((x y : X) → R x y → S y x) → AllZip R xs ys → AllZip S ys xs
all_zip_back R S [] [] turn pairs = pairs
all_zip_back R S (x ∷ xs) (y ∷ ys) turn pairs = (turn x y pairs.0, all_zip_back R S xs ys turn pairs.1)
all_zip_back R S _ _ turn pairs = absurd pairs

-- what some item of the first has gives what some item of the second has
pub Any-all_zip : {X : Type 0} (R : X → X → Type 0) (P Q : X → Type 0) (xs ys : List X) → ((x y : X) → R x y → P x → Q y)
    → AllZip R xs ys → Any P xs → Any Q ys
Any-all_zip R P Q xs ys leads pairs (k, x, within, is, has) =
    let y = get_or ys k x in
    let long : length xs ≡ length ys = length_all_zip R xs ys pairs in
    let inside : k < length ys = omega arith in
    let pair : R x y = subst (λ z. R z y) is (AllZip-get_or R xs ys k x x pairs within) in
    (k, y, inside, get_or_default ys k y x inside, leads x y pair has)
