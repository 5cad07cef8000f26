use Rattle.std.proofs.Common.{◌≡◌, ℕ, List, Some, ◌++◌, append_assoc, codes, refl, sym, ap}
use Rattle.seccompiler.specs.Texts.{json_text, IsJsonText}
use Rattle.seccompiler.proofs.json.error.JsonFrontendErrorDisplay.fmt.Goals.{in-Read, in-RepeatedKey, in-NotAnObject, in-OutOfMemory}
use Rattle.seccompiler.proofs.json.error.JsonFrontendErrorDisplay.fmt.Goals as goal

pub returns-in-SyscallName-clause-writes : goal.returns-in-SyscallName-clause-writes
returns-in-SyscallName-clause-writes g c = rw c.in-SyscallName.is (simp append_assoc c.write-in-SyscallName.ensures.writes)

pub returns-in-SyscallName-clause-text : goal.returns-in-SyscallName-clause-text
returns-in-SyscallName-clause-text g c plain ok = let writes = rw c.in-SyscallName.is at (returns-in-SyscallName-clause-writes g c) in
    rw c.in-SyscallName.is (_, refl, writes plain ok)

pub returns-in-SerdeJson-clause-text : goal.returns-in-SerdeJson-clause-text
returns-in-SerdeJson-clause-text g c plain ok = let words : List ℕ = c.as_str.result.now in
    rw c.in-SerdeJson.is (codes "Error parsing Json: " ++ words, (words, refl), c.write.ensures.writes plain ok)

pub returns-in-Backend : goal.returns-in-Backend
returns-in-Backend g c = let w = c.fmt.ensures.writes in rw c.in-Backend.is (record { writes = w; text = λ p ok. (_, refl, w p ok) })

pub returns-in-Shape : goal.returns-in-Shape
returns-in-Shape g c = let w = c.write-in-Shape.ensures.writes in rw c.in-Shape.is (record { writes = w; text = λ p ok. (_, refl, w p ok) })

pub returns : goal.returns
returns g c =
    let is : (json_text c.args.self.now ≡ Some c.match-self.text.now) × IsJsonText c.args.self.now c.match-self.text.now =
    elim c.match-self.branch [
      | in-Read w ↦ let same = ap (λ text. Some text.now) (sym w.text-is) in rw w.in-Read.is (same, same)
      | in-RepeatedKey w ↦ let same = ap (λ text. Some text.now) (sym w.text-is) in rw w.in-RepeatedKey.is (same, same)
      | in-NotAnObject w ↦ let same = ap (λ text. Some text.now) (sym w.text-is) in rw w.in-NotAnObject.is (same, same)
      | in-OutOfMemory w ↦ let same = ap (λ text. Some text.now) (sym w.text-is) in rw w.in-OutOfMemory.is (same, same)
    ] in let writes = c.write_str.ensures.writes in
    record { writes = rw is.0 writes; text = λ plain ok. (c.match-self.text.now, is.1, writes plain ok) }
