-- What is done, one after the other, and what it comes to.
use Rattle.seccomptool.proofs.Common.{[], ◌++◌, ◌+◌, ◌<◌, ◌∷◌, ◌≡◌, Answer, AnswerError, Bool, Bor, Command, Contains-append_right}
use Rattle.seccomptool.proofs.Common.{Contains-get_or, Contains-push, Failure, Layer, List, Made, Named, None, Option, Overwrites, Some}
use Rattle.seccomptool.proofs.Common.{false, get_or, inl, inr, length, map, max, refl, subst, sym, take, take_more, true, ℕ}
use Rattle.seccomptool.specs.Commands.{Answers}
use Rattle.seccomptool.specs.Ends.{AreRead, Ends, EndsOn, EndsOnEach, EndsWith, IsCarriedOut, IsKept, IsOfOutside, IsRefused}
use Rattle.seccomptool.specs.Ends.{apart_of}
use Rattle.seccomptool.specs.Learn.{TraceReading}
use Rattle.seccomptool.specs.Ends.{on_more, overwrites, refused, unanswered}
use Rattle.seccomptool.specs.Failures.{Fails}
use Rattle.seccomptool.specs.Files.{files_of, guarded, lists, output_of, subjects_of, whole, writes_bytes}
use Rattle.seccomptool.specs.Outside.{Event, compared, failed, got, got_of, named_of, on_terminal, told, writes, wrote}

-- What comes from outside came from there if more was done before.
pub outside_behind : (front events : List Event) (f : Failure) → IsOfOutside events f → IsOfOutside (front ++ events) f
outside_behind front events f (inl memory) = inl memory
outside_behind front events f (inr there) = inr (Contains-append_right front events _ there)

-- Nothing is written by what is done before something is made.
pub unwritten_both : (front events : List Event) → writes front ≡ false → writes events ≡ false → writes (front ++ events) ≡ false
unwritten_both [] events none also = also
unwritten_both (got path bytes ∷ front) events none also = unwritten_both front events none also
unwritten_both (compared read written same ∷ front) events none also = unwritten_both front events none also
unwritten_both (on_terminal is ∷ front) events none also = unwritten_both front events none also
unwritten_both (wrote path bytes ∷ front) events none also = absurd (let never : ⊥ = cc in never)
unwritten_both (failed path cause ∷ front) events none also = unwritten_both front events none also
unwritten_both (told f ∷ front) events none also = unwritten_both front events none also

pub got_unwritten : (inputs : List Layer) → writes (map got_of inputs) ≡ false
got_unwritten [] = refl
got_unwritten (input ∷ inputs) = got_unwritten inputs

pub compared_unwritten : (files : List Named) (written : List ℕ)
    → writes (map (λ (file : Named). compared file.path.now written false) files) ≡ false
compared_unwritten [] written = refl
compared_unwritten (file ∷ files) written = compared_unwritten files written

pub apart_unwritten : (output : Option (List ℕ)) (of_bytes : Bool) (files : List Named) → writes (apart_of output of_bytes files) ≡ false
apart_unwritten (Some written) of_bytes files = compared_unwritten files written
apart_unwritten None true files = refl
apart_unwritten None false files = refl

pub read_unwritten : (output : Option (List ℕ)) (of_bytes : Bool) (files : List Named) (inputs : List Layer)
    → writes (apart_of output of_bytes files ++ map got_of inputs) ≡ false
read_unwritten output of_bytes files inputs =
    unwritten_both (apart_of output of_bytes files) (map got_of inputs) (apart_unwritten output of_bytes files) (got_unwritten inputs)

-- Exactly the files are read, once nothing stands against writing.
pub all_read : (command : Command) (files guarding : List Named) (inputs : List Layer) (output : Option (List ℕ)) (of_bytes : Bool)
    → output ≡ output_of command → of_bytes ≡ writes_bytes command → guarding ≡ guarded command files → map named_of inputs ≡ files
    → AreRead command files inputs (apart_of output of_bytes guarding ++ map got_of inputs)
all_read command files guarding inputs output of_bytes is bytes guards named =
    record { named = named; are = rw (is, bytes, guards) refl }

-- What is made of what is read is written.
pub made_of : (reads : TraceReading) (command : Command) (files : List Named) (inputs given : List Layer) (before : List Event)
    (output : Option (List ℕ)) (made : Made) (written : List ℕ) → output ≡ output_of command → AreRead command files inputs before
    → given ≡ inputs → Answers reads command given made → written ≡ made.text.items
    → IsCarriedOut reads command files (before ++ wrote output written ∷ []) made
made_of reads command files inputs given before output made written is read same answers text = record {
  inputs = inputs;
  before = before;
  are_read = read;
  answers = subst (λ xs. Answers reads command xs made) same answers;
  are = rw (is, text) refl;
}

-- What keeps from an answer keeps from carrying out.
pub unmade : (reads : TraceReading) (command : Command) (files : List Named) (inputs given : List Layer) (before : List Event)
    (error : AnswerError) (f : Failure) → AreRead command files inputs before → given ≡ inputs → Fails reads command given error
    → f.cause ≡ Answer error → IsKept reads command files before f
unmade reads command files inputs given before error f read same fails cause =
    unanswered inputs read error (subst (λ xs. Fails reads command xs error) same fails) cause

-- What the output is refused for keeps from carrying out.
pub refusal_of : (reads : TraceReading) (command : Command) (files guarding : List Named) (output : Option (List ℕ)) (of_bytes : Bool)
    (events : List Event) (f : Failure) → output ≡ output_of command → of_bytes ≡ writes_bytes command
    → guarding ≡ guarded command files → IsRefused output of_bytes guarding events f → IsKept reads command files events f
refusal_of reads command files guarding output of_bytes events f is bytes guards own = refused (rw (sym is, sym bytes, sym guards) own)

-- One more file is checked.
pub one_more : (reads : TraceReading) (command : Command) (subjects : List (Bor (List ℕ))) (at : ℕ) (d : Bor (List ℕ))
    (before own : List Event) (less status : ℕ) → at < length subjects → EndsOnEach reads command (take at subjects) before less
    → Ends reads command (whole (get_or subjects at d) ∷ []) own status
    → EndsOnEach reads command (take (at + 1) subjects) (before ++ own) (max status less)
one_more reads command subjects at d before own less status room each ends =
    rw (take_more subjects at d room) (on_more each (get_or subjects at d) ends)

-- A command that is no check ends on all of its files.
pub ends_whole : (reads : TraceReading) (command : Command) (files : List Named) (events : List Event) (status : ℕ)
    → subjects_of command ≡ None → files ≡ files_of command → Ends reads command files events status → EndsWith reads command events status
ends_whole reads command files events status none are ends =
    let of : (in_list : Bool) → EndsOn reads in_list (subjects_of command) command events status = λ in_list.
    subst (λ subjects. EndsOn reads in_list subjects command events status) (sym none) (at in_list) in
    of (lists command)
  where
    all : Ends reads command (files_of command) events status
    all = subst (λ fs. Ends reads command fs events status) are ends

    at : (in_list : Bool) → EndsOn reads in_list None command events status
    at true = all
    at false = all

-- One of the files that are read is the one that would be written.
pub overwritten : (output : Option (List ℕ)) (of_bytes : Bool) (files : List Named) (at : ℕ) (d : Named) (before : List Event)
    (written : List ℕ) (f : Failure) (same : Bool) → output ≡ Some written → at < length files → same ≡ true → f.cause ≡ Overwrites
    → IsRefused output of_bytes files (before ++ compared (get_or files at d).path.now written same ∷ []) f
overwritten output of_bytes files at d before written f same is room true_is cause =
    overwrites (get_or files at d) written is (Contains-get_or files at d room) (rw true_is (Contains-push before _)) cause
