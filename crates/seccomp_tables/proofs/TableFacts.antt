-- What holds of each table, from tests that are computed over the whole of it.
use Rattle.std.proofs.Common.{◌≡◌, ◌≢◌, ◌<◌, ◌≤◌, pos, ◌&&◌, List, [], ◌∷◌, Bool, true, false, Ordering, Less, Equal, Greater, nat_cmp}
use Rattle.std.proofs.Common.{ℕ, ℤ, ◌+◌, ◌-◌, zero, suc, length, take, drop, All, AllPairs, slice_index_or, refl, sym, ap, subst, ◌∙◌}
use Rattle.std.proofs.Common.{arith}
use Rattle.std.specs.Cmp.Lexicographic.{slice_cmp}
use Rattle.std.specs.List.{list_all}
use Rattle.std.specs.Ordering.{is_lt}
use Rattle.std.specs.Int.Signed.{le_z, le_z_yes}
use Rattle.std.proofs.Math.Dec.{leb, ltb}
use Rattle.std.proofs.lemmas.Bool.{leb-true, ltb-true}
use Rattle.std.proofs.lemmas.Cmp.{nat_list_cmp_total}
use Rattle.std.proofs.lemmas.Float.{T_from_true}
use Rattle.std.proofs.lemmas.List.{drop-drop}
use Rattle.std.proofs.lemmas.List.Elements.{All-nil, All-cons, All-weaker}
use Rattle.std.proofs.lemmas.List.Kept.{AllPairs-cons}
use Rattle.std.proofs.lemmas.List.Sums.{AllPass-from_list_all}
use Rattle.std.proofs.lemmas.Str.Ascii.{IsAscii-from_all}
use Rattle.seccomp_tables.specs.Tables.{Pair, greatest_number, IsTableNumber, IsCallTable, StandsBefore, words, numbered, IsWord, AreStarts}
use Rattle.seccomp_tables.specs.Tables.{x86_64_pairs, aarch64_pairs, riscv64_pairs}
use Rattle.seccomp_tables.specs.declared.x86_64.TheConstants.{X86_64_NAMES, X86_64_STARTS}
use Rattle.seccomp_tables.specs.declared.aarch64.TheConstants.{AARCH64_NAMES, AARCH64_STARTS}
use Rattle.seccomp_tables.specs.declared.riscv64.TheConstants.{RISCV64_NAMES, RISCV64_STARTS}

-- a test of two parts passes only if both do
both : (a b : Bool) → (a && b) ≡ true → (a ≡ true) × (b ≡ true)
both true b passed = (refl, passed)
both false b passed = cc

-- the test for Less
less_of : (order : Ordering) → is_lt order ≡ true → order ≡ Less
less_of Less passed = refl
less_of Equal passed = cc
less_of Greater passed = cc

-- whether each name comes before the next
abbrev is_ascending : List Pair → Bool
is_ascending [] = true
is_ascending (first ∷ []) = true
is_ascending (first ∷ second ∷ rest) = is_lt (slice_cmp nat_cmp first.0 second.0) && is_ascending (second ∷ rest)

-- names each of which comes before the next stand before all later ones
all_before : (first : Pair) (rest : List Pair) → is_ascending (first ∷ rest) ≡ true
    → All (StandsBefore first) rest × AllPairs StandsBefore (first ∷ rest)
all_before first [] passed = (
  All-nil (StandsBefore first),
  AllPairs-cons StandsBefore first [] (All-nil (StandsBefore first)) (λ i j d i<j short. absurd (omega arith)),
)
all_before first (second ∷ rest) passed =
    let parts = both (is_lt (slice_cmp nat_cmp first.0 second.0)) (is_ascending (second ∷ rest)) passed in
    let here : StandsBefore first second = less_of (slice_cmp nat_cmp first.0 second.0) parts.0 in
    let behind = all_before second rest parts.1 in
    let all = All-cons (StandsBefore first) second rest here
    (All-weaker (StandsBefore second) (StandsBefore first)
    (λ later. nat_list_cmp_total.trans first.0 second.0 later.0 here) rest behind.0) in
    (all, AllPairs-cons StandsBefore first (second ∷ rest) all behind.1)

ascending : (table : List Pair) → is_ascending table ≡ true → AllPairs StandsBefore table
ascending [] passed = λ i j d i<j short. absurd (omega arith)
ascending (first ∷ rest) passed = (all_before first rest passed).1

-- no name comes before itself
differs : (first second : Pair) → StandsBefore first second → first.0 ≢ second.0
differs first second before same =
    let itself : slice_cmp nat_cmp first.0 first.0 ≡ Less = ap (slice_cmp nat_cmp first.0) same ∙ before in
    let mirrored = nat_list_cmp_total.antisymm first.0 first.0 in
    let turned : Less ≡ Greater = rw itself at mirrored in
    cc

-- whether a pair's number is one that a system call has
abbrev is_in_range : Pair → Bool
is_in_range pair = le_z (pos 0) pair.1 && le_z pair.1 greatest_number

in_range : (pair : Pair) → is_in_range pair ≡ true → IsTableNumber pair.1
in_range pair passed = let parts = both (le_z (pos 0) pair.1) (le_z pair.1 greatest_number) passed in
    (le_z_yes (T_from_true _ parts.0), le_z_yes (T_from_true _ parts.1))

-- whether a pair's name is of ASCII
abbrev is_ascii : Pair → Bool
is_ascii pair = list_all (λ byte. ltb byte 128) pair.0

ascii : (pair : Pair) → is_ascii pair ≡ true → All (λ byte. byte < 128) pair.0
ascii pair passed = All-weaker (λ byte. ltb byte 128 ≡ true) (λ byte. byte < 128) (λ byte. ltb-true byte 128) pair.0
    (AllPass-from_list_all (λ byte. ltb byte 128) pair.0 passed)

-- whether a pair passes both
abbrev is_row : Pair → Bool
is_row pair = is_ascii pair && is_in_range pair

-- whether a table passes all tests
abbrev passes : List Pair → Bool
passes table = (leb 255 (length table) && ltb (length table) 512) && (is_ascending table && list_all is_row table)

-- a table that passes them is one
is_table : (table : List Pair) → passes table ≡ true → IsCallTable table
is_table table passed =
    let parts = both (leb 255 (length table) && ltb (length table) 512) _ passed in
    let sizes = both (leb 255 (length table)) (ltb (length table) 512) parts.0 in
    let rows = both (is_ascending table) (list_all is_row table) parts.1 in
    let each = AllPass-from_list_all is_row table rows.1 in
    let ascends = ascending table rows.0 in
    record {
      long = leb-true 255 (length table) sizes.0;
      short = ltb-true (length table) 512 sizes.1;
      ascii = All-weaker (λ pair. is_row pair ≡ true) (λ pair. All (λ byte. byte < 128) pair.0)
          (λ pair fits. ascii pair (both (is_ascii pair) (is_in_range pair) fits).0) table each;
      ascending = ascends;
      distinct = λ i j d i<j j<n. differs (slice_index_or table i d) (slice_index_or table j d) (ascends i j d i<j j<n);
      in_range = All-weaker (λ pair. is_row pair ≡ true) (λ pair. IsTableNumber pair.1)
          (λ pair fits. in_range pair (both (is_ascii pair) (is_in_range pair) fits).1) table each;
    }

-- the words of what stands behind the first of some starts
abbrev cut : List ℕ → List ℕ → List (List ℕ)
cut rest [] = []
cut rest (start ∷ []) = []
cut rest (start ∷ next ∷ starts) = take (next - 1 - start) rest ∷ cut (drop (next - start) rest) (next ∷ starts)

-- the words of a text by their starts
abbrev cut_at : List ℕ → List ℕ → List (List ℕ)
cut_at text starts = cut (drop (slice_index_or starts 0 0) text) starts

-- whether each start comes before the next, and none is past this end
abbrev are_apart : ℕ → List ℕ → Bool
are_apart end [] = true
are_apart end (start ∷ []) = true
are_apart end (start ∷ next ∷ starts) = ltb start next && (leb next end && are_apart end (next ∷ starts))

-- starts that are apart cut a word off at each place
word_at : (text starts : List ℕ) (place : ℕ) (word : List ℕ) → are_apart (length text + 1) starts ≡ true
    → place < length (cut_at text starts)
    → IsWord text (slice_index_or starts place 0) (slice_index_or starts (suc place) 0) (slice_index_or (cut_at text starts) place word)
word_at text [] place word passed within = absurd (omega (arith, within))
word_at text (start ∷ []) place word passed within = absurd (omega (arith, within))
word_at text (start ∷ next ∷ starts) place word passed within =
    let parts = both (ltb start next) (leb next (length text + 1) && are_apart (length text + 1) (next ∷ starts)) passed in
    let rest = both (leb next (length text + 1)) (are_apart (length text + 1) (next ∷ starts)) parts.1 in
    let apart = ltb-true start next parts.0 in
    let there : start + (next - start) ≡ next = omega (arith, apart) in
    let behind : drop next text ≡ drop (next - start) (drop start text) =
    sym (drop-drop (next - start) start text ∙ ap (λ n. drop n text) there) in
    let first = take (next - 1 - start) (drop start text) in
    subst (λ behind. place < length (first ∷ cut behind (next ∷ starts))
    → IsWord text (slice_index_or (start ∷ next ∷ starts) place 0) (slice_index_or (next ∷ starts) place 0)
    (slice_index_or (first ∷ cut behind (next ∷ starts)) place word)) behind
    (elim place as (λ place. place < length (first ∷ cut_at text (next ∷ starts))
    → IsWord text (slice_index_or (start ∷ next ∷ starts) place 0) (slice_index_or (next ∷ starts) place 0)
    (slice_index_or (first ∷ cut_at text (next ∷ starts)) place word)) [
      | zero ↦ λ within. record { apart = apart; inside = leb-true next (length text + 1) rest.0; here = refl }
      | suc place ↦ λ within. word_at text (next ∷ starts) place word rest.1 (omega (arith, within))
    ]) within

-- what passes the tests are the starts of a text's words
are_starts : (text starts : List ℕ) → list_all (λ byte. ltb byte 128) text ≡ true → cut_at text starts ≡ words text
    → are_apart (length text + 1) starts ≡ true → length starts ≡ length (words text) + 1 → AreStarts text starts
are_starts text starts plain same apart long = record {
  ascii = IsAscii-from_all text (All-weaker (λ byte. ltb byte 128 ≡ true) (λ byte. byte < 128) (λ byte. ltb-true byte 128) text
      (AllPass-from_list_all (λ byte. ltb byte 128) text plain));
  long = long;
  each = λ place word within.
      let next : place + 1 ≡ suc place = omega arith in
      rw next (subst (λ (cuts : List (List ℕ)). place < length cuts
      → IsWord text (slice_index_or starts place 0) (slice_index_or starts (suc place) 0) (slice_index_or cuts place word)) same
      (word_at text starts place word apart) within);
}

-- the name in a pair is the word at its place
pub name_at : (names : List (List ℕ)) (numbers : List ℤ) (place : ℕ) (name : List ℕ) (pair : Pair) → place < length names
    → length names ≤ length numbers → (slice_index_or (numbered names numbers) place pair).0 ≡ slice_index_or names place name
name_at [] numbers place name pair within short = absurd (omega (arith, within))
name_at (first ∷ names) [] place name pair within short = absurd (omega (arith, short))
name_at (first ∷ names) (number ∷ numbers) zero name pair within short = refl
name_at (first ∷ names) (number ∷ numbers) (suc place) name pair within short =
    name_at names numbers place name pair (omega (arith, within)) (omega (arith, short))

-- the tests, computed
pub x86_64_table : IsCallTable x86_64_pairs
unfolding x86_64_pairs
x86_64_table = is_table x86_64_pairs refl

-- the tests, computed
pub x86_64_starts : AreStarts X86_64_NAMES.now X86_64_STARTS
x86_64_starts = are_starts X86_64_NAMES.now X86_64_STARTS refl refl refl refl

-- the tests, computed
pub aarch64_table : IsCallTable aarch64_pairs
unfolding aarch64_pairs
aarch64_table = is_table aarch64_pairs refl

-- the tests, computed
pub aarch64_starts : AreStarts AARCH64_NAMES.now AARCH64_STARTS
aarch64_starts = are_starts AARCH64_NAMES.now AARCH64_STARTS refl refl refl refl

-- the tests, computed
pub riscv64_table : IsCallTable riscv64_pairs
unfolding riscv64_pairs
riscv64_table = is_table riscv64_pairs refl

-- the tests, computed
pub riscv64_starts : AreStarts RISCV64_NAMES.now RISCV64_STARTS
riscv64_starts = are_starts RISCV64_NAMES.now RISCV64_STARTS refl refl refl refl

-- what holds of each table, for a proof by cases of architectures
pub ruleset each_table = (x86_64_table, aarch64_table, riscv64_table)
