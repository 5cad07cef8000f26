use Rattle.std.proofs.Common.{ℕ, List, ◌++◌, Option, Some, None, Result, Err, codes, refl}
use Rattle.std.proofs.Output.{has_written_append}
use Rattle.std.proofs.lemmas.Bool.{false≢true}
use Rattle.std.specs.Prelude.{option_map, ⊤}
use Rattle.std.specs.Fmt.{DisplaysOnOk, IsPlainFormatter, HasWritten}
use Rattle.std.specs.declared.fmt.Formatter.{Formatter}
use Rattle.std.specs.declared.fmt.Error as fmt
use Rattle.seccompiler.specs.Texts.{json_text}
use Rattle.seccompiler.proofs.error.ErrorDisplay.fmt.Goals as goal

-- what stands in front of a text, if all of that is known
prefixed : {W : Type 0} (took : W → List ℕ → W → Type 0) (f g h : Formatter W) (r : Result ⊤ fmt.Error) (words : List ℕ)
    → (o : Option (List ℕ)) → (IsPlainFormatter f → HasWritten took f words g) → DisplaysOnOk took g r o h
    → DisplaysOnOk took f r (option_map (λ text. words ++ text) o) h
prefixed took f g h r words None began rest = tt
prefixed took f g h r words (Some text) began rest = λ plain ok.
    has_written_append took f words g text h (began plain) (rest (began plain).plain ok)

-- a failed call need not have written
refused : {W : Type 0} (took : W → List ℕ → W → Type 0) (f h : Formatter W) (e : fmt.Error) (words : List ℕ)
    → (o : Option (List ℕ)) → DisplaysOnOk took f (Err e) (option_map (λ text. words ++ text) o) h
refused took f h e words None = tt
refused took f h e words (Some text) = λ plain ok. absurd (false≢true ok)

pub returns-in-Backend : goal.returns-in-Backend
returns-in-Backend g c = let w = c.write.ensures.writes in rw c.in-Backend.is (record { writes = w; text = λ p ok. (_, refl, w p ok) })

pub returns-in-EmptyFilter : goal.returns-in-EmptyFilter
returns-in-EmptyFilter g c = let w = c.write_str.ensures.writes in
    rw c.in-EmptyFilter.is (record { writes = w; text = λ p ok. (_, refl, w p ok) })

pub returns-in-Prctl : goal.returns-in-Prctl
returns-in-Prctl g c = let w = c.write-in-Prctl.ensures.writes in rw c.in-Prctl.is (record { writes = w; text = λ p ok. (_, refl, w p ok) })

pub returns-in-Seccomp : goal.returns-in-Seccomp
returns-in-Seccomp g c = let w = c.write-in-Seccomp.ensures.writes in
    rw c.in-Seccomp.is (record { writes = w; text = λ p ok. (_, refl, w p ok) })

pub returns-in-ThreadSync : goal.returns-in-ThreadSync
returns-in-ThreadSync g c = let w = c.write-in-ThreadSync.ensures.writes in
    rw c.in-ThreadSync.is (record { writes = w; text = λ p ok. (_, refl, w p ok) })

pub returns-in-OutOfMemory : goal.returns-in-OutOfMemory
returns-in-OutOfMemory g c = let w = c.write_str-in-OutOfMemory.ensures.writes in
    rw c.in-OutOfMemory.is (record { writes = w; text = λ p ok. (_, refl, w p ok) })

pub returns-in-Ok-clause-writes : goal.returns-in-Ok-clause-writes
returns-in-Ok-clause-writes g c = rw c.in-JsonFrontend.is (prefixed g.W.Write.write_str_gives _ _ _ _ _ (json_text c.in-JsonFrontend.error)
    (λ plain. c.write_str-in-JsonFrontend.ensures.writes plain (rw c.in-Ok.is refl)) c.fmt.ensures.writes)

pub returns-in-Ok-clause-text : goal.returns-in-Ok-clause-text
returns-in-Ok-clause-text g c plain ok = let began = c.write_str-in-JsonFrontend.ensures.writes plain (rw c.in-Ok.is refl) in
    let inner = c.fmt.ensures.text began.plain ok in let whole = has_written_append _ _ _ _ _ _ began inner.2 in
    rw c.in-JsonFrontend.is (codes "Json Frontend error: " ++ inner.0, (inner.0, inner.1, refl), whole)

pub returns-in-Err-clause-writes : goal.returns-in-Err-clause-writes
returns-in-Err-clause-writes g c = rw c.in-JsonFrontend.is (refused g.W.Write.write_str_gives c.args.f.now
    c.write_str-in-JsonFrontend.new.self _ (codes "Json Frontend error: ") (json_text c.in-JsonFrontend.error))

pub returns-in-Err-clause-text : goal.returns-in-Err-clause-text
returns-in-Err-clause-text g c plain ok = absurd (false≢true ok)
