-- Bytes in chunks, and those in chunks of 64, which are records and a rest.
use Rattle.std.proofs.Common.{◌≡◌, ℕ, zero, suc, ◌+◌, ◌*◌, ◌/◌, ◌≤◌, List, ◌++◌, length, take, drop, All, Option, Err, refl, sym, subst, ap}
use Rattle.std.proofs.Common.{◌∙◌, append_assoc, take-append-drop, length-drop, length-take-le, arith}
use Rattle.std.specs.List.{concat}
use Rattle.std.proofs.Math.Nat.{suc-mul}
use Rattle.std.specs.Simd.{first_chunks}
use Rattle.std.proofs.lemmas.List.{drop-drop}
use Rattle.std.proofs.lemmas.List.Elements.{All-nil, All-cons}
use Rattle.std.specs.Io.KnownBytes.{Appends}
use Rattle.seccompiler.specs.Reads.{Reads}
use Rattle.seccompc.specs.Errors.{IsReadError}
use Rattle.seccompc.specs.Records.{IsCutIntoRecords, WritesLines, AnswersRecords}
use Rattle.seccompc.specs.declared.error.ToolError.{ToolError}
use Rattle.seccompc.specs.declared.error.ToolError.TheVariants as tool
use Rattle.seccompc.proofs.Readings.{reads_some}

-- The chunks of so many bytes and what is left after them are the bytes.
chunks_joined : (n k : ℕ) (bytes : List ℕ) → concat (first_chunks n k bytes) ++ drop (k * n) bytes ≡ bytes
chunks_joined n zero bytes = let none : zero * n ≡ zero = omega arith in ap (λ m. drop m bytes) none
chunks_joined n (suc k) bytes =
    let more : suc k * n ≡ n + k * n = omega (arith, suc-mul k n) in
    let rest : drop (suc k * n) bytes ≡ drop (k * n) (drop n bytes) = ap (λ m. drop m bytes) more ∙ sym (drop-drop (k * n) n bytes) in
    append_assoc (take n bytes) (concat (first_chunks n k (drop n bytes))) (drop (suc k * n) bytes)
    ∙ ap (λ text. take n bytes ++ (concat (first_chunks n k (drop n bytes)) ++ text)) rest
    ∙ ap (λ text. take n bytes ++ text) (chunks_joined n k (drop n bytes))
    ∙ take-append-drop n bytes

-- Each chunk has 64 bytes.
chunks_whole : (k : ℕ) (bytes : List ℕ) → k * 64 ≤ length bytes → All (λ (call : List ℕ). length call ≡ 64) (first_chunks 64 k bytes)
chunks_whole zero bytes room = All-nil (λ (call : List ℕ). length call ≡ 64)
chunks_whole (suc k) bytes room =
    All-cons (λ (call : List ℕ). length call ≡ 64) (take 64 bytes) (first_chunks 64 k (drop 64 bytes))
    (length-take-le 64 bytes (omega arith))
    (chunks_whole k (drop 64 bytes) (omega (arith, length-drop 64 bytes)))

-- The whole chunks and the rest are a cut into records.
cut_by_chunks : (bytes : List ℕ) → IsCutIntoRecords bytes (first_chunks 64 (length bytes / 64) bytes) (drop (length bytes / 64 * 64) bytes)
cut_by_chunks bytes = record {
  joined = sym (chunks_joined 64 (length bytes / 64) bytes);
  whole = chunks_whole (length bytes / 64) bytes (omega arith);
  short = omega (arith, length-drop (length bytes / 64 * 64) bytes);
}

-- The text of the chunks of all items, once it is sent.
pub lines_sent : (IsTextOf : List (List ℕ) → List ℕ → Type 0) (items slice tail text sent : List ℕ) (records : List (List ℕ)) (rest : ℕ)
    (old new : Option (List ℕ))
    → slice ≡ items → records ≡ first_chunks 64 (length slice / 64) slice → tail ≡ drop (length slice / 64 * 64) slice → length tail ≡ rest
    → IsTextOf records text → sent ≡ text → Appends old new sent → WritesLines IsTextOf items rest old new
lines_sent IsTextOf items slice tail text sent records rest old new same chunks behind left told is appends = record {
  records = records;
  tail = tail;
  cut = subst (λ bytes. IsCutIntoRecords bytes records tail) same (rw (chunks, behind) (cut_by_chunks slice));
  left = left;
  text = text;
  told = told;
  appends = subst (Appends old new) is appends;
}

-- If a text of records is one in other words too, what is written of them is.
pub retold : (IsTextOf IsOther : List (List ℕ) → List ℕ → Type 0)
    → ((records : List (List ℕ)) (text : List ℕ) → IsTextOf records text → IsOther records text)
    → (bytes : List ℕ) (rest : ℕ) (old new : Option (List ℕ)) → WritesLines IsTextOf bytes rest old new
    → WritesLines IsOther bytes rest old new
retold IsTextOf IsOther tells bytes rest old new w = record {
  records = w.records;
  tail = w.tail;
  cut = w.cut;
  left = w.left;
  text = w.text;
  told = tells w.records w.text w.told;
  appends = w.appends;
}

-- An error that reports no rest of a record says nothing of the records.
pub answers_none : (IsTextOf : List (List ℕ) → List ℕ → Type 0) (e : ToolError) → ((rest : ℕ) → e ≡ tool.ShortRecord rest → ⊥)
    → (bytes : List ℕ) (old new : Option (List ℕ)) → AnswersRecords IsTextOf bytes (Err e) old new
answers_none IsTextOf (tool.ShortRecord rest) none bytes old new = absurd (none rest refl)
answers_none IsTextOf _ none bytes old new = tt

-- If reading fails, nothing is said of the records.
pub unread : (IsTextOf : List (List ℕ) → List ℕ → Type 0) (known : Option (List ℕ)) (e : ToolError) (old new : Option (List ℕ))
    → IsReadError e
    → Reads known (λ bytes. AnswersRecords IsTextOf bytes (Err e) old new)
unread IsTextOf known e old new cause =
    reads_some known _ (λ bytes. answers_none IsTextOf e (λ rest is. subst IsReadError is cause) bytes old new)
