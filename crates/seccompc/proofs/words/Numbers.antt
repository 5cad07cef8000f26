-- For `read_signed`: what std's `parse` reads, in the words of `specs/Words.antt`.
use Rattle.std.proofs.Common.{◌≡◌, ◌≢◌, ℕ, ℤ, pos, neg_ℤ, ◌<◌, ◌≤◌, ◌^◌, List, [], ◌∷◌, length, Option, Result, Ok, Err, IfSome, IfNone}
use Rattle.std.proofs.Common.{slice_index, refl, sym, subst, ap, ⊎_elim, arith}
use Rattle.std.proofs.lemmas.Int.{ints}
use Rattle.std.proofs.lemmas.Bool.{cases_eq}
use Rattle.std.specs.Result.{OkIff, result_ok}
use Rattle.std.specs.Str.Parse.{AllDigits, ParsesSigned, digits_value}
use Rattle.std.proofs.lemmas.Str.Parse.{IsNumeralModel, parse_signed_plain, parse_signed_minus}
use Rattle.seccomp_text.specs.Numbers.{IsWritten}
use Rattle.seccompc.specs.Words.{IsSignedText, IsSigned64, unsigned, after_minus}
use mir.Syntax.{w64}

-- Numerals are said in std's own words.
numerals : IsNumeralModel (AllDigits 10) (digits_value 10)
numerals = record { to = λ ds all. all; from = λ ds all. all; same = λ ds all. refl }

-- The number of the text, if it is one of 64 bits with its sign, and else none.
pub record IsSignedRead (text : List ℕ) (r : Option ℤ) : Type 0 where
  pub read : IfSome r (IsSignedText text)
  pub unread : IfNone r ((z : ℤ) → IsSigned64 z → IsSignedText text z → ⊥)

-- If no sign comes in front.
unsigned_cases : {E : Type 0} (text : List ℕ) (r : Result ℤ E) → slice_index text 0 ≢ 45
    → OkIff r (AllDigits 10 text × (0 < length text) × (digits_value 10 text < 2 ^ 63)) (pos (digits_value 10 text))
    → IsSignedRead text (result_ok r)
unsigned_cases text (Ok z) differs h = record {
  read = unsigned (digits_value 10 text) (record { digits = (h.0.1, h.0.0); value = refl; fits = omega (arith, h.0.2) }) h.1;
  unread = tt;
}
unsigned_cases text (Err e) differs h = record {
  read = tt;
  unread = λ z fits is. elim is [
    | unsigned n written same ↦ h (written.digits.1, written.digits.0, omega (arith, ints, written.value))
    | after_minus digits n same written gives ↦ differs (ap (λ s. slice_index s 0) same)
  ];
}

-- If a minus does.
minus_cases : {E : Type 0} (digits : List ℕ) (r : Result ℤ E)
    → OkIff r (AllDigits 10 digits × (0 < length digits) × (digits_value 10 digits ≤ 2 ^ 63)) (neg_ℤ (pos (digits_value 10 digits)))
    → IsSignedRead (45 ∷ digits) (result_ok r)
minus_cases digits (Ok z) h = record {
  read = after_minus digits (digits_value 10 digits) refl (record { digits = (h.0.1, h.0.0); value = refl; fits = omega (arith, h.0.2) })
      h.1;
  unread = tt;
}
minus_cases digits (Err e) h = record {
  read = tt;
  unread = λ z fits is. elim is [
    | unsigned n written same ↦ absurd (omega (arith, written.digits.1.0))
    | after_minus others n same written gives ↦
        let e : digits ≡ others = cc in
        let here = subst (λ ds. IsWritten 10 ds n) (sym e) written in
        h (here.digits.1, here.digits.0, omega (arith, ints, here.value))
  ];
}

-- What `parse` reads of a text without a plus in front.
pub signed_read : {E : Type 0} (text : List ℕ) (r : Result ℤ E) → ParsesSigned w64 10 text r → slice_index text 0 ≢ 43
    → IsSignedRead text (result_ok r)
signed_read [] r h differs =
    unsigned_cases [] r (λ e. absurd (omega arith)) (parse_signed_plain numerals w64 [] r h differs (λ e. absurd (omega arith)))
signed_read (c ∷ digits) r h differs = ⊎_elim
    (λ e. subst (λ b. IsSignedRead (b ∷ digits) (result_ok r)) (sym e)
    (minus_cases digits r (parse_signed_minus numerals w64 (c ∷ digits) r h e)))
    (λ other. unsigned_cases (c ∷ digits) r other (parse_signed_plain numerals w64 (c ∷ digits) r h differs other))
    (cases_eq c 45)
