-- Numbers in hexadecimal digits, byte by byte.
use Rattle.std.proofs.Common.{◌≡◌, ℕ, suc, ◌/◌, ◌%◌, ◌^◌, ◌<◌, [], ◌∷◌, ◌++◌, sym, append_assoc, refl, arith}
use Rattle.std.specs.Int.{byte_at}
use Rattle.seccomp_text.specs.Hexadecimal.{hexadecimal, hexadecimal_digit}

-- A byte has two digits.
pub byte_written : (n : ℕ) → n < 2 ^ 8 → hexadecimal_digit (n / 16) ∷ hexadecimal_digit (n % 16) ∷ [] ≡ hexadecimal 2 n
unfolding hexadecimal
byte_written n few =
    let high : n / 16 % 16 ≡ n / 16 = omega (arith, few) in
    rw high refl

-- The last two digits are those of the lowest byte.
lowest_byte : (k n : ℕ) → hexadecimal (suc (suc k)) n ≡ hexadecimal k (n / 256) ++ hexadecimal 2 (n % 256)
unfolding hexadecimal
lowest_byte k n =
    let above : n / 16 / 16 ≡ n / 256 = omega arith in
    let high : n % 256 / 16 % 16 ≡ n / 16 % 16 = omega arith in
    let low : n % 256 % 16 ≡ n % 16 = omega arith in
    rw (above, high, low) (append_assoc (hexadecimal k (n / 256)) (hexadecimal_digit (n / 16 % 16) ∷ []) (hexadecimal_digit (n % 16) ∷ []))

-- The digits of two bytes.
pub two_bytes_written : (n : ℕ) → n < 2 ^ 16 → hexadecimal 2 (byte_at 1 n) ++ hexadecimal 2 (byte_at 0 n) ≡ hexadecimal 4 n
two_bytes_written n few =
    let high : byte_at 1 n ≡ n / 256 = omega (arith, few) in
    rw high (sym (lowest_byte 2 n))

-- The digits of four bytes.
pub four_bytes_written : (n : ℕ) → n < 2 ^ 32
    → hexadecimal 2 (byte_at 3 n) ++ hexadecimal 2 (byte_at 2 n) ++ hexadecimal 2 (byte_at 1 n) ++ hexadecimal 2 (byte_at 0 n)
    ≡ hexadecimal 8 n
four_bytes_written n few =
    let fourth : byte_at 3 n ≡ n / 256 / 256 / 256 = omega (arith, few) in
    let third : byte_at 2 n ≡ n / 256 / 256 % 256 = omega arith in
    let second : byte_at 1 n ≡ n / 256 % 256 = omega arith in
    rw (fourth, third, second, lowest_byte 6 n, lowest_byte 4 (n / 256), lowest_byte 2 (n / 256 / 256)) (simp append_assoc refl)
