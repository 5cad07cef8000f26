-- The numbers in a call record: their ranges, their halves, and masks over halves.
use Rattle.std.proofs.Common.{◌≡◌, ℕ, ◌+◌, ◌*◌, ◌/◌, ◌%◌, ◌<◌, ◌^◌, List, ap, ◌∙◌, arith}
use Rattle.std.specs.Prelude.{slice_index, bit_and}
use Rattle.std.proofs.lemmas.Bool.{cases_lt}
use Rattle.std.proofs.lemmas.List.Elements.{All-get_or}
use Rattle.std.proofs.lemmas.List.{get_or_past}
use Rattle.std.proofs.lemmas.Nat.{and_block}
use Rattle.seccompiler.specs.Machine.{IsRecord, word_at, number_at}

-- a byte of a record is below 256
byte_fits : (r : List ℕ) (k : ℕ) → IsRecord r → slice_index r k < 256
byte_fits r k rec = grind (arith, All-get_or, get_or_past, cases_lt)

-- a word of a record has 32 bits
pub word_fits : (r : List ℕ) (k : ℕ) → IsRecord r → word_at r k < 2 ^ 32
word_fits r k rec = omega (arith, byte_fits r k rec, byte_fits r (k + 1) rec, byte_fits r (k + 1 + 1) rec, byte_fits r (k + 1 + 1 + 1) rec)

-- an eight-byte number is two words
pub number_halves : (r : List ℕ) (k : ℕ) → number_at r k 8 ≡ word_at r k + 2 ^ 32 * word_at r (k + 4)
number_halves r k = grind arith

-- a mask goes over the halves
pub mask_halves : (x m : ℕ) → bit_and x m ≡ bit_and (x / 2 ^ 32) (m / 2 ^ 32) * 2 ^ 32 + bit_and (x % 2 ^ 32) (m % 2 ^ 32)
mask_halves x m = let ex : x ≡ x / 2 ^ 32 * 2 ^ 32 + x % 2 ^ 32 = omega arith in
    let em : m ≡ m / 2 ^ 32 * 2 ^ 32 + m % 2 ^ 32 = omega arith in
    ap (λ n. bit_and n m) ex ∙ ap (λ n. bit_and (x / 2 ^ 32 * 2 ^ 32 + x % 2 ^ 32) n) em
    ∙ and_block 32 (x / 2 ^ 32) (m / 2 ^ 32) (x % 2 ^ 32) (m % 2 ^ 32) (omega arith) (omega arith)
