-- For the functions of `concerns` and `lowered`: two lists whose elements belong together one by one.
use Rattle.std.proofs.Common.{◌≡◌, ◌<◌, ℕ, zero, suc, ◌+◌, List, [], ◌∷◌, ◌++◌, length, get_or, take, refl, sym, subst, ap, arith}
use Rattle.std.specs.List.{AllZip}
use Rattle.seccomp_profiles.proofs.Quantified.{more_read}

module _ {X Y : Type 0} (R : X → Y → Type 0) where
  -- One element more of both.
  zip_push : (xs : List X) (ys : List Y) (x : X) (y : Y) → AllZip R xs ys → R x y → AllZip R (xs ++ x ∷ []) (ys ++ y ∷ [])
  zip_push [] [] x y zip here = (here, tt)
  zip_push [] (z ∷ ys) x y zip here = absurd zip
  zip_push (w ∷ xs) [] x y zip here = absurd zip
  zip_push (w ∷ xs) (z ∷ ys) x y zip here = (zip.0, zip_push xs ys x y zip.1 here)

  -- The elements so far and one read more.
  pub zip_read : (xs : List X) (i : ℕ) (x : X) (ys new : List Y) (y : Y) → i < length xs → x ≡ get_or xs i x → new ≡ ys ++ y ∷ []
      → AllZip R (take i xs) ys → R x y → AllZip R (take (i + 1) xs) new
  zip_read xs i x ys new y within is longer zip here =
      subst (λ zs. AllZip R zs new) (sym (more_read xs i x within is))
      (subst (λ zs. AllZip R (take i xs ++ x ∷ []) zs) (sym longer) (zip_push (take i xs) ys x y zip here))

  -- They are as many.
  pub zip_length : (xs : List X) (ys : List Y) → AllZip R xs ys → length xs ≡ length ys
  zip_length [] [] zip = refl
  zip_length [] (y ∷ ys) zip = absurd zip
  zip_length (x ∷ xs) [] zip = absurd zip
  zip_length (x ∷ xs) (y ∷ ys) zip = ap suc (zip_length xs ys zip.1)

  -- The elements at a place.
  pub record AreAt (xs : List X) (ys : List Y) (k : ℕ) : Type 0 where
    pub one : X
    pub other : Y
    pub one_is : one ≡ get_or xs k one
    pub other_is : other ≡ get_or ys k other
    pub both : R one other

  pub zip_at : (xs : List X) (ys : List Y) (k : ℕ) → k < length xs → AllZip R xs ys → AreAt xs ys k
  zip_at [] ys k within zip = absurd (omega arith)
  zip_at (x ∷ xs) [] k within zip = absurd zip
  zip_at (x ∷ xs) (y ∷ ys) zero within zip = record { one = x; other = y; one_is = refl; other_is = refl; both = zip.0 }
  zip_at (x ∷ xs) (y ∷ ys) (suc k) within zip =
      let rest = zip_at xs ys k (omega arith) zip.1 in
      record { one = rest.one; other = rest.other; one_is = rest.one_is; other_is = rest.other_is; both = rest.both }
