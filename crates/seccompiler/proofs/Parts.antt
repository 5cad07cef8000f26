-- A list of which a part was written anew, and a list cut at an index.
use Rattle.std.proofs.Common.{◌≡◌, ℕ, suc, ◌+◌, ◌-◌, ◌<◌, ◌≤◌, List, [], ◌∷◌, ◌++◌, length, get_or, set, take, drop, sym, ap, ◌∙◌, refl}
use Rattle.std.proofs.Common.{length-drop, take-append-drop, append_assoc, arith}
use Rattle.std.proofs.Math.ListN.{length-set}
use Rattle.std.proofs.Math.Seq.{drop-cons, take-suc-set, take-append-add}
use Rattle.std.proofs.lemmas.List.{take_all, take-append-le}
use Rattle.std.proofs.lemmas.Slice.{take-put_mid}
use lib.Seq.{length-take-le, drop_at}
use borrow.Rule.Slice.PartMut.{put_mid, Post-is, same_len_mid}

-- from the start of the part on, it has what was written, and then what it had behind the part
pub drop-written : {X : Type 0} (a e : ℕ) (xs ys : List X) → a ≤ e → e ≤ length xs → drop a (put_mid a (e - a) xs ys) ≡ ys ++ drop e xs
drop-written a e xs ys some within = grind (arith, drop_at, length-take-le, Post-is)

-- a part has as many elements as its bounds say
pub length-part : {X : Type 0} (a e : ℕ) (xs : List X) → a ≤ e → e ≤ length xs → length (take (e - a) (drop a xs)) ≡ e - a
length-part a e xs some within = grind (arith, length-drop, length-take-le)

-- up to one place behind the part, where one more element was set, it has what it had, what was written, and that element
pub take-written : {X : Type 0} (a e : ℕ) (xs ys : List X) (x : X) → a ≤ e → e < length xs
    → length ys ≡ e - a → take (e + 1) (set (put_mid a (e - a) xs ys) e x) ≡ take a xs ++ (ys ++ x ∷ [])
take-written a e xs ys x some within long = let inside : a ≤ length xs = omega arith in
    let here : e < length (put_mid a (e - a) xs ys) =
    omega (arith, same_len_mid a (e - a) xs ys (long ∙ sym (length-part a e xs some (omega arith)))) in
    let z : e + 1 ≡ suc e = omega arith in let before = take-put_mid a (e - a) xs ys e (omega arith) inside in
    ap (λ n. take n (set (put_mid a (e - a) xs ys) e x)) z ∙ take-suc-set (put_mid a (e - a) xs ys) e x here
    ∙ ap (λ l. l ++ x ∷ []) before ∙ append_assoc (take a xs) ys (x ∷ [])

-- a list, cut at an index
pub around : {X : Type 0} (items : List X) (i : ℕ) (x : X) → i < length items → x ≡ get_or items i x
    → items ≡ take i items ++ x ∷ drop (i + 1) items
around items i x within is = grind (arith, take-append-drop, drop-cons)

-- up to a place of the part, it has what it had, and then what was written up to that place
pub take-front : {X : Type 0} (a n : ℕ) (xs ys : List X) → a ≤ length xs → n ≤ length ys
    → take (a + n) (put_mid a (length xs - a) xs ys) ≡ take a xs ++ take n ys
take-front a n xs ys inside few = grind (arith, length-take-le, take-append-add, take-append-le)

-- the front of a list whose first element was written, what lies behind it, and one more element behind n of these
pub framed : {X : Type 0} (n : ℕ) (xs ys : List X) (x z : X) → length ys + 1 ≡ length xs → n < length ys → let first = set xs 0 x in
    take (1 + n + 1) (set (put_mid 1 (length first - 1) first ys) (1 + n) z) ≡ x ∷ (take n ys ++ z ∷ [])
framed n [] ys x z long few = absurd (omega arith)
framed n (y ∷ xs) ys x z long few = let first = x ∷ xs in
    let whole = put_mid 1 (length first - 1) first ys in let count : length ys ≡ length first - 1 = omega arith in
    let same = same_len_mid 1 (length first - 1) first ys (count ∙ sym (length-part 1 (length first) first (omega arith) (omega arith))) in
    let one_more : 1 + n + 1 ≡ suc (1 + n) = omega arith in
    ap (λ m. take m (set whole (1 + n) z)) one_more ∙ take-suc-set whole (1 + n) z (omega arith)
    ∙ ap (λ l. l ++ z ∷ []) (take-front 1 n first ys (omega arith) (omega arith))

-- a list of four elements of which three were written together, and then the last
pub four-written : {X : Type 0} (front xs : List X) (a b c d : X) → front ≡ a ∷ b ∷ c ∷ []
    → length xs ≡ 4 → set (front ++ drop 3 xs) 3 d ≡ a ∷ b ∷ c ∷ d ∷ []
four-written front (x ∷ y ∷ z ∷ w ∷ []) a b c d is long = rw is refl
four-written front _ a b c d is long = absurd (omega arith)

-- a list of which the first three elements were written together, then the fourth, what lies between it and the last, and the last
pub headed : {X : Type 0} (front xs ys : List X) (a b c d z : X) → front ≡ a ∷ b ∷ c ∷ [] → length ys + 5 ≡ length xs
    → let first = set (front ++ drop 3 xs) 3 d in
    set (put_mid 4 (length first - 1 - 4) first ys) (length first - 1) z ≡ a ∷ b ∷ c ∷ d ∷ (ys ++ z ∷ [])
headed front (x ∷ y ∷ v ∷ w ∷ xs) ys a b c d z is long = let first = a ∷ b ∷ c ∷ d ∷ xs in
    let last = length first - 1 in let e : last + 1 ≡ length first = omega arith in
    let whole = set (put_mid 4 (last - 4) first ys) last z in let count : length ys ≡ last - 4 = omega arith in
    let long_whole : length whole ≡ length first = length-set (put_mid 4 (last - 4) first ys) last z
    ∙ same_len_mid 4 (last - 4) first ys (count ∙ sym (length-part 4 last first (omega arith) (omega arith))) in
    rw is (sym (take_all (last + 1) whole (omega arith)) ∙ take-written 4 last first ys z (omega arith) (omega arith) count)
headed front _ ys a b c d z is long = absurd (omega arith)
