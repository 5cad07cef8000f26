-- The numbers in a call record have 32 bits.
use Rattle.std.proofs.Common.{◌≡◌, ℕ, ◌+◌, ◌<◌, ◌^◌, List, length, arith, ⊎_elim}
use Rattle.std.specs.Prelude.{slice_index}
use Rattle.std.proofs.lemmas.Bool.{cases_lt}
use Rattle.std.proofs.lemmas.List.Elements.{All-get_or}
use Rattle.std.proofs.lemmas.List.{get_or_past}
use Rattle.seccompiler.specs.Machine.{IsRecord, word_at}

-- a byte of a record is below 256
byte_fits : (r : List ℕ) (k : ℕ) → IsRecord r → slice_index r k < 256
byte_fits r k rec =
    ⊎_elim
    (λ within. All-get_or (λ b. b < 256) r k 0 within rec.bytes)
    (λ past. let e : slice_index r k ≡ 0 = get_or_past r k 0 past in omega arith)
    (cases_lt k (length r))

-- a word of a record has 32 bits
pub word_fits : (r : List ℕ) (k : ℕ) → IsRecord r → word_at r k < 2 ^ 32
word_fits r k rec =
    omega (arith, byte_fits r k rec, byte_fits r (k + 1) rec, byte_fits r (k + 1 + 1) rec, byte_fits r (k + 1 + 1 + 1) rec)
