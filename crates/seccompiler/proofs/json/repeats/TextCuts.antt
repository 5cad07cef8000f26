-- For `colons` and `repeats_key`: each text has a cut into pieces, and all its cuts have the same number of colons.
use Rattle.std.proofs.Common.{◌≡◌, ℕ, ◌+◌, ◌≤◌, ◌==◌, List, [], ◌∷◌, ◌++◌, refl, sym, ap, ◌∙◌, append_assoc, append-nil, add-zero, count_by}
use Rattle.std.proofs.Common.{cond, subst, inl, inr, length, arith}
use Rattle.std.specs.List.{flat_map, fold}
use Rattle.std.proofs.lemmas.Bool.{ne_eqb, cases_eq}
use Rattle.std.proofs.lemmas.List.{flat_map_more}
use Rattle.std.proofs.lemmas.List.Sums.{sum_by-append, sum_by-cons}
use Rattle.seccompiler.specs.ColonCount.{from_outside, from_inside}
use Rattle.seccompiler.specs.JsonRepeats.{HasColons}
use Rattle.seccompiler.specs.TextPieces.{StringItem, plain, escaped, item_bytes, items_bytes, Piece, byte, quoted, piece_bytes, Ending}
use Rattle.seccompiler.specs.TextPieces.{closed, unclosed, unclosed_backslash, ending_bytes, IsCutIntoPieces, is_colon}

-- Some pieces and an ending, that a text is cut into.
abbrev Cut : List ℕ → Type 0
Cut text = (pieces : List Piece) × (ending : Ending) × IsCutIntoPieces text pieces ending

-- Where a text stops: outside strings, in one, or in one behind a backslash.
data Place : Type 0 where
  Outside : Place
  Inside : Place
  Escaped : Place

-- How a text ends that stops at a place, in or behind a string of these items.
abbrev ending_at : Place → List StringItem → Ending
ending_at Outside string = closed
ending_at Inside string = unclosed string
ending_at Escaped string = unclosed_backslash string

-- A byte that ends no piece: the quote that opens a string, or a byte in one.
goes_on : (front next : List ℕ) (b : ℕ) (text : List ℕ) → front ++ b ∷ [] ≡ next → Cut (next ++ text) → Cut (front ++ b ∷ text)
goes_on front next b text longer = subst Cut (ap (λ t. t ++ text) (sym longer) ∙ append_assoc front (b ∷ []) text)

-- What is left of a text, behind what is begun at a place, has a cut.
cut_from : (place : Place) (string : List StringItem) (text : List ℕ) → Cut (ending_bytes (ending_at place string) ++ text)
cut_from place string [] = ([], ending_at place string, append-nil _)
cut_from Outside string (b ∷ text) = elim (cases_eq b 34) [
  | inl is ↦ rw is (cut_from Inside [] text)
  | inr other ↦ let rest = cut_from Outside [] text in (byte b other ∷ rest.0, rest.1, ap (λ t. b ∷ t) rest.2)
]
cut_from Inside string (b ∷ text) = elim (cases_eq b 34) [
  | inl is ↦ let rest = cut_from Outside [] text in
      let regrouped : 34 ∷ (items_bytes string ++ 34 ∷ (flat_map piece_bytes rest.0 ++ ending_bytes rest.1))
      ≡ flat_map piece_bytes (quoted string ∷ rest.0) ++ ending_bytes rest.1 = simp append_assoc in
      rw is (quoted string ∷ rest.0, rest.1, ap (λ t. 34 ∷ (items_bytes string ++ 34 ∷ t)) rest.2 ∙ regrouped)
  | inr no_quote ↦ elim (cases_eq b 92) [
    | inl is ↦ rw is (goes_on (34 ∷ items_bytes string) (34 ∷ (items_bytes string ++ 92 ∷ [])) 92 text refl (cut_from Escaped string text))
    | inr no_backslash ↦ let item = plain b no_quote no_backslash in
        goes_on (34 ∷ items_bytes string) (34 ∷ items_bytes (string ++ item ∷ [])) b text
        (flat_map_more item_bytes (34 ∷ []) string item) (cut_from Inside (string ++ item ∷ []) text)
  ]
]
cut_from Escaped string (b ∷ text) = goes_on (34 ∷ (items_bytes string ++ 92 ∷ [])) (34 ∷ items_bytes (string ++ escaped b ∷ [])) b text
    (ap (λ t. 34 ∷ t) (append_assoc (items_bytes string) (92 ∷ []) (b ∷ [])) ∙ flat_map_more item_bytes (34 ∷ []) string (escaped b))
    (cut_from Inside (string ++ escaped b ∷ []) text)

-- No colon in a string's items counts, nor one in an ending; each piece that is one does.
past_items : (n : ℕ) (items : List StringItem) (rest : List ℕ) → from_inside n (items_bytes items ++ rest) ≡ from_inside n rest
past_items n [] rest = refl
past_items n (plain b no_quote no_backslash ∷ items) rest = rw (ne_eqb b 34 no_quote, ne_eqb b 92 no_backslash) (past_items n items rest)
past_items n (escaped b ∷ items) rest = past_items n items rest

past_ending : (n : ℕ) (ending : Ending) → from_outside n (ending_bytes ending) ≡ n
past_ending n closed = refl
past_ending n (unclosed items) = rw (← append-nil (items_bytes items)) (past_items n items [])
past_ending n (unclosed_backslash items) = past_items n items (92 ∷ [])

past_pieces : (n : ℕ) (pieces : List Piece) (ending : Ending) → from_outside n (flat_map piece_bytes pieces ++ ending_bytes ending)
    ≡ fold (λ k x. k + cond (is_colon x) 1 0) n pieces
past_pieces n [] ending = past_ending n ending
past_pieces n (byte b no_quote ∷ pieces) ending = rw (ne_eqb b 34 no_quote) (past_pieces (n + cond (b == 58) 1 0) pieces ending)
past_pieces n (quoted items ∷ pieces) ending =
    let rest = flat_map piece_bytes pieces ++ ending_bytes ending in
    let regrouped : ((items_bytes items ++ 34 ∷ []) ++ flat_map piece_bytes pieces) ++ ending_bytes ending
    ≡ items_bytes items ++ 34 ∷ rest = simp append_assoc in
    rw (add-zero n) (ap (from_inside n) regrouped ∙ past_items n items (34 ∷ rest) ∙ past_pieces n pieces ending)

-- Each text has a cut with as many colons as are counted from the front.
pub counted_from_front : (text : List ℕ) → HasColons text (from_outside 0 text)
counted_from_front text =
    let cut = cut_from Outside [] text in (cut.0, cut.1, cut.2, ap (from_outside 0) cut.2 ∙ past_pieces 0 cut.0 cut.1)

-- So many are counted where nothing is left.
pub counted_to_end : (text rest : List ℕ) (n : ℕ) → length rest ≡ 0 → from_outside n rest ≡ from_outside 0 text → HasColons text n
counted_to_end text [] n none same = let whole = counted_from_front text in (whole.0, whole.1, whole.2, same ∙ whole.3)
counted_to_end text (b ∷ rest) n none same = absurd (omega arith)

-- All cuts of a text have the same number of colons.
pub same_count : (text : List ℕ) (n m : ℕ) → HasColons text n → HasColons text m → n ≡ m
same_count text n m (p, e, cut, first) (q, f, other, second) = first ∙ sym (past_pieces 0 p e)
    ∙ ap (from_outside 0) (sym cut ∙ other) ∙ past_pieces 0 q f ∙ sym second

-- No more pieces are a colon than their text has bytes `:`.
among_bytes : (pieces : List Piece) (ending : Ending)
    → count_by is_colon pieces ≤ count_by (λ b. b == 58) (flat_map piece_bytes pieces ++ ending_bytes ending)
among_bytes [] ending = omega arith
among_bytes (x ∷ pieces) ending =
    let own : cond (is_colon x) 1 0 ≤ count_by (λ b. b == 58) (piece_bytes x) =
    elim x as (λ y. cond (is_colon y) 1 0 ≤ count_by (λ b. b == 58) (piece_bytes y)) [ byte b o ↦ omega arith | quoted i ↦ omega arith ] in
    rw (
      append_assoc (piece_bytes x) (flat_map piece_bytes pieces) (ending_bytes ending),
      sum_by-append (λ b. cond (b == 58) 1 0) (piece_bytes x) (flat_map piece_bytes pieces ++ ending_bytes ending),
      sum_by-cons (λ y. cond (is_colon y) 1 0) x pieces,
    ) (omega (arith, own, among_bytes pieces ending))

-- A text has no more colons outside strings than bytes `:`.
pub at_most_all : (text : List ℕ) (n : ℕ) → HasColons text n → n ≤ count_by (λ b. b == 58) text
at_most_all text n (pieces, ending, cut, counted) = rw (cut, counted) (among_bytes pieces ending)
