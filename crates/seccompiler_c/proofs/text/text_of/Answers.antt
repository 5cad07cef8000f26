use Rattle.std.proofs.Common.{◌≡◌, ◌++◌, string_bytes, sym, ap, ◌∙◌, subst, rules}
use Rattle.std.proofs.lemmas.Fmt.{contents_after_writes}
use Rattle.seccompiler_c.specs.Messages.{IsFaultText}
use Rattle.seccompiler_c.proofs.text.text_of.Goals as goal

pub returns : goal.returns
returns c =
    let (text, is, written) = c.fmt.ensures.text c.new-f.ensures.plain (search rules) in
    let wrote = contents_after_writes _ string_bytes (λ w bs v took. took) _ text _ written.wrote in
    let empty = ap string_bytes c.new-f.ensures.writer ∙ c.new.ensures.bytes in
    let same : string_bytes c.into_inner.result ≡ text =
    ap string_bytes c.into_inner.ensures ∙ wrote ∙ ap (λ bytes. bytes ++ text) empty in
    record { text = subst (IsFaultText c.args.fault.now) (sym same) is }
