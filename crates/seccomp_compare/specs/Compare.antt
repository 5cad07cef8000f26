-- What a comparison of two programs, or of two filters, says of the calls of a set.
use Rattle.std.specs.Prelude.{◌≡◌, ℕ, ◌+◌, ◌<◌, ◌≤◌, List, length, nat_eq, if◌then◌else◌, bit_and}
use Rattle.seccompiler.specs.declared.bpf.sock_filter.{sock_filter}
use Rattle.seccomp_compare.specs.declared.Relation.{Relation}
use Rattle.seccomp_compare.specs.declared.Relation.TheVariants.{Alike, AtMostAsPermissive}
use Rattle.seccomp_compare.specs.declared.Comparison.{Comparison}
use Rattle.seccomp_compare.specs.declared.Comparison.TheVariants.{Holds, Fails, Undecided}
use Rattle.seccompiler.specs.Machine.{IsRecord, word_at}
use Rattle.seccomp_compare.specs.declared.End.{End}
use Rattle.seccomp_compare.specs.declared.End.TheVariants as end
use Rattle.seccomp_compare.specs.declared.Stop.{Stop}
use Rattle.seccomp_compare.specs.Machine.{Ends, EndsFrom}

-- A set of calls: those whose architecture words lie within two bounds, and whose numbers do within two, all included.
pub record CallSet : Type 0 where
  pub least_arch : ℕ
  pub greatest_arch : ℕ
  pub least : ℕ
  pub greatest : ℕ

-- The record is one of these calls: with one of their architecture words, and with one of their numbers.
pub record IsCallOf (calls : CallSet) (r : List ℕ) : Type 0 where
  pub record_is : IsRecord r
  pub least_arch : calls.least_arch ≤ word_at r 4
  pub greatest_arch : word_at r 4 ≤ calls.greatest_arch
  pub least : calls.least ≤ word_at r 0
  pub greatest : word_at r 0 ≤ calls.greatest

-- How much an action permits, from the least: that of killing the process, killing the thread, trap, error number, user
-- notification, trace, log, allow (seccomp(2), which lists them from the strictest). Any other kills the process.
abbrev pub rank_of_action : ℕ → ℕ
rank_of_action action =
    if nat_eq action 0x7fff0000 then 7 else
    if nat_eq action 0x7ffc0000 then 6 else
    if nat_eq action 0x7ff00000 then 5 else
    if nat_eq action 0x7fc00000 then 4 else
    if nat_eq action 0x00050000 then 3 else
    if nat_eq action 0x00030000 then 2 else
    if nat_eq action 0x00000000 then 1 else 0

-- How much the action of a word permits: the upper half of the word names it (linux/seccomp.h, SECCOMP_RET_ACTION_FULL).
abbrev pub rank : ℕ → ℕ
rank word = rank_of_action (bit_and word 0xffff0000)

-- The relation holds of two words.
abbrev pub Related : Relation → ℕ → ℕ → Type 0
Related Alike word other = word ≡ other
Related AtMostAsPermissive word other = rank word ≤ rank other

-- Two programs return words for the record of which the relation holds.
pub record AnswersRelated (relation : Relation) (p q : List sock_filter) (r : List ℕ) : Type 0 where
  pub word : ℕ
  pub steps : ℕ
  pub ends : Ends p r steps word
  pub other_word : ℕ
  pub other_steps : ℕ
  pub other_ends : Ends q r other_steps other_word
  pub related : Related relation word other_word

-- Two programs return words for the record of which the relation doesn't hold.
pub record AnswersUnrelated (relation : Relation) (p q : List sock_filter) (r : List ℕ) : Type 0 where
  pub word : ℕ
  pub steps : ℕ
  pub ends : Ends p r steps word
  pub other_word : ℕ
  pub other_steps : ℕ
  pub other_ends : Ends q r other_steps other_word
  pub unrelated : Related relation word other_word → ⊥

-- What a comparison says of two programs: that the relation holds of their words for each of these calls; or a call of
-- them for which it doesn't; or nothing.
abbrev pub Compares : CallSet → Relation → List sock_filter → List sock_filter → Comparison → Type 0
Compares calls relation p q Holds = (r : List ℕ) → IsCallOf calls r → AnswersRelated relation p q r
Compares calls relation p q (Fails r) = IsCallOf calls r × AnswersUnrelated relation p q r
Compares calls relation p q Undecided = Unit {0}

-- The program's run on this record comes to this place, which is one of the program: as it ends from there, it ends.
pub record ComesTo (p : List sock_filter) (r : List ℕ) (place : ℕ) : Type 0 where
  pub within : place < length p
  pub accumulator : ℕ
  pub steps : ℕ
  pub ends : (n w : ℕ) → EndsFrom p r place accumulator n w → Ends p r (steps + n) w

-- Both programs come to these places on one of these calls.
pub record IsStop (calls : CallSet) (p q : List sock_filter) (s : Stop) : Type 0 where
  pub call : IsCallOf calls s.call
  pub comes : ComesTo p s.call s.place
  pub other_comes : ComesTo q s.call s.other_place

-- What the end of a comparison says of two programs: that the relation holds for each of these calls; a call of them for which it doesn't;
-- or where it stopped.
abbrev pub EndsFor : CallSet → Relation → List sock_filter → List sock_filter → End → Type 0
EndsFor calls relation p q end.Holds = (r : List ℕ) → IsCallOf calls r → AnswersRelated relation p q r
EndsFor calls relation p q (end.Fails r) = IsCallOf calls r × AnswersUnrelated relation p q r
EndsFor calls relation p q (end.Stops s) = IsStop calls p q s
