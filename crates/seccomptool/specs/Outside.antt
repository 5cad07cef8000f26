-- What is done outside, and what is answered there.
use Rattle.std.specs.Prelude.{[], ◌∷◌, Bool, List, Option, false, true, ℕ}
use Rattle.seccomptool.specs.Words.{Answer, Failure, Layer, Named, OutOfMemory}
use Rattle.seccomptool.specs.declared.outside.Cause.{Cause}

pub data Event : Type 0 where
  -- These bytes are read at the path.
  got : (path bytes : List ℕ) → Event
  -- What is read there is, or isn't, the file that would be written.
  compared : (read written : List ℕ) (same : Bool) → Event
  -- Standard output is a terminal, or it isn't.
  on_terminal : Bool → Event
  -- These bytes are written to a file, or to standard output.
  wrote : (path : Option (List ℕ)) (bytes : List ℕ) → Event
  -- The file, or standard output, can't be read or written.
  failed : (path : Option (List ℕ)) → Cause → Event
  -- The failure is reported on standard error.
  told : Failure → Event

-- Something is written.
abbrev pub writes : List Event → Bool
writes [] = false
writes (wrote path bytes ∷ events) = true
writes (event ∷ events) = writes events

-- This is done, and it is so.
pub record Does (Did Is : List Event → Type 0) : Type 0 where
  pub events : List Event
  pub did : Did events
  pub is : Is events

-- What is read, by its path and the filter that is asked for of it; and that it was read.
abbrev pub named_of : Layer → Named
named_of input = record { path = input.path; filter = input.filter }

abbrev pub got_of : Layer → Event
got_of input = got input.path.now input.text.items

abbrev pub out_of_memory : Cause
out_of_memory = Answer OutOfMemory
