-- The words that a program's returns have: each is among them.
use Rattle.std.proofs.Common.{◌≡◌, ℕ, zero, suc, ◌+◌, ◌<◌, ◌≤◌, List, [], ◌∷◌, ◌++◌, length, Some, sym, subst, arith, length-append}
use Rattle.std.proofs.Common.{⊎_elim}
use Rattle.std.specs.Prelude.{slice_get}
use Rattle.std.proofs.lemmas.Bool.{cases_eq}
use Rattle.std.proofs.lemmas.Bool.Decides.{nat_tests}
use Rattle.std.proofs.lemmas.Option.{same_Some}
use Rattle.seccompiler.specs.declared.bpf.sock_filter.{sock_filter}
use Rattle.seccomp_stack.specs.Joined.{place_of, with_word, words_from}

-- the place of a word is at most how many words there are
pub place_within : (words : List ℕ) (word : ℕ) → place_of words word ≤ length words
place_within [] word = omega arith
place_within (w ∷ words) word = let rest = place_within words word in grind (arith, nat_tests)

-- a word keeps its place if others follow
pub place_before : (words more : List ℕ) (word : ℕ) → place_of words word < length words
    → place_of (words ++ more) word ≡ place_of words word
place_before [] more word within = absurd (omega arith)
place_before (w ∷ words) more word within = let rest = place_before words more word in grind (arith, nat_tests)

-- a word that is added is there
pub place_added : (words : List ℕ) (word : ℕ) → place_of (words ++ word ∷ []) word < length words + 1
place_added [] word = grind (arith, nat_tests)
place_added (w ∷ words) word = let rest = place_added words word in grind (arith, nat_tests)

-- what stands among the words stands there still
with_has : (words : List ℕ) (i : sock_filter) (word : ℕ) → place_of words word < length words
    → place_of (with_word words i) word < length (with_word words i)
with_has words i word has =
    let before = place_before words (i.k ∷ []) word has in
    let long = length-append words (i.k ∷ []) in
    ⊎_elim
    (λ returns. ⊎_elim (λ new. grind (arith, nat_tests)) (λ old. grind (arith, nat_tests)) (cases_eq (place_of words i.k) (length words)))
    (λ other. grind (arith, nat_tests))
    (cases_eq i.code 6)

-- the word of a return is there
with_own : (words : List ℕ) (i : sock_filter) → i.code ≡ 6 → place_of (with_word words i) i.k < length (with_word words i)
with_own words i returns =
    let added = place_added words i.k in
    let long = length-append words (i.k ∷ []) in
    let within = place_within words i.k in
    ⊎_elim (λ new. grind (arith, nat_tests)) (λ old. grind (arith, nat_tests)) (cases_eq (place_of words i.k) (length words))

from_has : (words : List ℕ) (program : List sock_filter) (word : ℕ) → place_of words word < length words
    → place_of (words_from words program) word < length (words_from words program)
from_has words [] word has = has
from_has words (i ∷ program) word has = from_has (with_word words i) program word (with_has words i word has)

-- the word of each return is among them
pub each_has : (words : List ℕ) (program : List sock_filter) (place : ℕ) (i : sock_filter) → slice_get program place ≡ Some i → i.code ≡ 6
    → place_of (words_from words program) i.k < length (words_from words program)
each_has words [] place i found returns = absurd (cc)
each_has words (j ∷ program) zero i found returns =
    let same : j ≡ i = same_Some j i found in
    let own : i.code ≡ 6 = returns in
    from_has (with_word words j) program i.k
    (subst (λ (x : sock_filter). place_of (with_word words x) i.k < length (with_word words x)) (sym same) (with_own words i own))
each_has words (j ∷ program) (suc place) i found returns = each_has (with_word words j) program place i found returns

-- there are at most as many as instructions
pub words_few : (words : List ℕ) (program : List sock_filter) → length (words_from words program) ≤ length words + length program
words_few words [] = omega arith
words_few words (i ∷ program) =
    let rest = words_few (with_word words i) program in
    let long = length-append words (i.k ∷ []) in
    let one : length (with_word words i) ≤ length words + 1 =
    ⊎_elim
    (λ returns. ⊎_elim (λ new. grind (arith, nat_tests)) (λ old. grind (arith, nat_tests)) (cases_eq (place_of words i.k) (length words)))
    (λ other. grind (arith, nat_tests))
    (cases_eq i.code 6) in
    omega arith
