-- Machinery: how programs are made one. Two are: the older one, and behind it the newer one once for each word that the older
-- one returns, in the place of whose returns stand jumps.
use Rattle.std.specs.Prelude.{◌≡◌, ◌==◌, ℕ, suc, ◌+◌, ◌*◌, ◌≤◌, List, [], ◌∷◌, ◌++◌, length, take, map, if◌then◌else◌, Vec}
use Rattle.std.specs.List.{flat_map}
use Rattle.std.specs.declared.alloc.Global.{Global}
use Rattle.seccompiler.specs.declared.bpf.sock_filter.{sock_filter}
use Rattle.seccompiler.specs.Code.{mask, jump, give}
use Rattle.seccomp_compare.specs.Machine.{Ends, IsChecked}
use Rattle.seccomp_stack.specs.declared.StackError.{StackError}
use Rattle.seccomp_stack.specs.declared.StackError.TheVariants.{TooLong, OutOfMemory}
use Rattle.seccomp_stack.specs.Stack.{prevailing}

-- The first place of a word among others, or how many they are if it is none of them.
abbrev pub place_of : List ℕ → ℕ → ℕ
place_of [] word = 0
place_of (w ∷ words) word = if w == word then 0 else suc (place_of words word)

-- The words with that of this instruction, if it returns another one.
abbrev pub with_word : List ℕ → sock_filter → List ℕ
with_word words i =
    if i.code == 0x06 then (if place_of words i.k == length words then words ++ i.k ∷ [] else words) else words

abbrev pub words_from : List ℕ → List sock_filter → List ℕ
words_from words [] = words
words_from words (i ∷ program) = words_from (with_word words i) program

-- The words that a program's returns have, each once, in the order in which they first appear.
abbrev pub words_in : List sock_filter → List ℕ
words_in program = words_from [] program

-- An instruction of the older program, with so many behind it: a return is a jump to the copy for its word.
abbrev pub in_front : (words : List ℕ) (size behind : ℕ) → sock_filter → sock_filter
in_front words size behind i = if i.code == 0x06 then jump (behind + place_of words i.k * size) else i

abbrev pub front : (words : List ℕ) (size : ℕ) → List sock_filter → List sock_filter
front words size [] = []
front words size (i ∷ older) = in_front words size (length older) i ∷ front words size older

-- An instruction of the newer program, if the older one returned this word: a return returns the word that prevails.
abbrev pub in_copy : ℕ → sock_filter → sock_filter
in_copy word i = if i.code == 0x06 then give (prevailing word i.k) else i

-- The newer program for a word of the older one. It begins with accumulator 0, as each program does.
abbrev pub copy : List sock_filter → ℕ → List sock_filter
copy newer word = mask 0 ∷ map (in_copy word) newer

-- Two programs as one.
abbrev pub joined : (older newer : List sock_filter) → List sock_filter
joined older newer =
    front (words_in older) (length newer + 1) older ++ flat_map (copy newer) (words_in older)

-- The program may be run, and returns of the words of two programs the one that prevails.
pub record AreJoined (older newer program : List sock_filter) : Type 0 where
  pub checked : IsChecked program
  pub decides : (r : List ℕ) (n m v w : ℕ) → Ends older r n v → Ends newer r m w → Ends program r (n + 1 + m) (prevailing v w)

-- What the error of two programs says is so: how long the program would be, which can't be run.
abbrev pub IsJoinRefusal : (older newer : List sock_filter) → StackError → Type 0
IsJoinRefusal older newer (TooLong n) = (n ≡ length (joined older newer)) × (IsChecked (joined older newer) → ⊥)
IsJoinRefusal older newer OutOfMemory = Unit {0}

abbrev pub stacked_on : List sock_filter → List (Vec sock_filter Global) → List sock_filter
stacked_on program [] = program
stacked_on program (newer ∷ programs) = stacked_on (joined program newer.items) programs

-- Any programs as one, the first of which is the oldest. None is one that allows each call.
abbrev pub stacked : List (Vec sock_filter Global) → List sock_filter
stacked [] = give 0x7fff0000 ∷ []
stacked (oldest ∷ programs) = stacked_on oldest.items programs

-- The first so many programs make a program of n instructions, which can't be run.
pub record IsTooLong (programs : List (Vec sock_filter Global)) (n : ℕ) : Type 0 where
  pub count : ℕ
  pub within : count ≤ length programs
  pub long : n ≡ length (stacked (take count programs))
  pub unfit : IsChecked (stacked (take count programs)) → ⊥

-- What the error says is so.
abbrev pub IsRefusal : List (Vec sock_filter Global) → StackError → Type 0
IsRefusal programs (TooLong n) = IsTooLong programs n
IsRefusal programs OutOfMemory = Unit {0}
