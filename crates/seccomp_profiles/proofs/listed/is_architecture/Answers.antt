use Rattle.std.proofs.Common.{◌≡◌, ◌∙◌, ap, arith, rules, String, Global, string_bytes, sym}
use Rattle.serde_json.specs.Data.{string}
use Rattle.serde_json.specs.View.{view}
use Rattle.serde_json.specs.declared.value.Value.{the_lemmas}
use Rattle.serde_json.specs.declared.value.Value.TheVariants as v
use Rattle.seccomp_profiles.specs.Listed as spec
use Rattle.seccomp_profiles.proofs.listed.is_architecture.Goals as goal

-- A text is what its bytes are.
text_is : (name : String Global) → view (v.String name) ≡ string (string_bytes name)
text_is name = grind (arith, the_lemmas)

pub returns-in-String : goal.returns-in-String
returns-in-String c =
    let known : c.is_among.result ≡ spec.is_known c.as_str.result.now = search rules in
    known ∙ ap spec.is_known c.as_str.ensures.value
    ∙ ap spec.is_architecture (sym (ap view c.in-String.is ∙ text_is c.in-String.name))
