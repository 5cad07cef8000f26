use Rattle.std.proofs.Common.{◌≡◌, ◌++◌, ℕ, List, codes, string_bytes, sym, subst, rules}
use Rattle.seccompiler.specs.declared.json.error.JsonFrontendError.TheVariants.{SerdeJson}
use Rattle.seccompiler_c.specs.Messages.{IsFaultText}
use Rattle.seccompiler_c.specs.declared.fault.Fault.{Fault}
use Rattle.seccompiler_c.specs.declared.fault.Fault.TheVariants.{Text}
use Rattle.seccompiler_c.proofs.text.Places.{more_words, of_ok}
use Rattle.seccompiler_c.proofs.text.own_text.Goals.{in-Text-SerdeJson+then-eq+in_ok-ok, in_default}
use Rattle.seccompiler_c.proofs.text.own_text.Goals as goal

pub returns : goal.returns
returns c =
    let fault : Fault = c.args.fault.now in
    let said : List ℕ = string_bytes c.in_ok-text.text in
    let own : IsFaultText fault said =
    of_ok (λ t. IsFaultText fault (string_bytes t)) c.text_of.result c.text_of.ensures.text c.in_ok-text.text (search rules) in
    elim c.match-fault.branch [
      | in-Text-SerdeJson+then-eq+in_ok-ok w ↦
          let it : fault ≡ Text (SerdeJson w.in-Text-SerdeJson.field-0-0) = search rules in
          let more = codes "; the text ends with a byte 0, which its length must not count" in
          let longer : string_bytes w.push_str.new.self ≡ said ++ more = search rules in
          rw w.text-is (subst (λ (f : Fault). IsFaultText f (string_bytes w.push_str.new.self)) (sym it)
          (subst (λ (bs : List ℕ). IsFaultText (Text (SerdeJson w.in-Text-SerdeJson.field-0-0)) bs) (sym longer)
          (more_words w.in-Text-SerdeJson.field-0-0 said more (subst (λ (f : Fault). IsFaultText f said) it own))))
      | in_default w ↦ rw w.text-is own
    ]
