use Rattle.std.proofs.Common.{◌≡◌, ◌↔◌, true, false, Some, IsTrue, refl}
use Rattle.std.specs.Option.{is_some}
use Rattle.serde_json.specs.Data.{Data, null, string}
use Rattle.serde_json.specs.Find.{as_null, as_str}
use Rattle.seccompiler.specs.JsonShape.{IsComment}
use Rattle.seccompiler.proofs.json.members.is_comment.Goals as goal

-- Null is a comment, and of all else a text alone.
null_is : (d : Data) → true ≡ is_some (as_null d) → IsComment (Some d)
null_is null is = tt
null_is d is = cc

text_is : (d : Data) → false ≡ is_some (as_null d) → IsTrue (is_some (as_str d)) ↔ IsComment (Some d)
text_is null other = cc
text_is (string text) other = (λ told. tt, λ is. refl)
text_is d other = (λ told. cc, λ is. absurd is)

pub returns-in-None : goal.returns-in-None
returns-in-None c = rw c.in-None.is (λ told. tt, λ is. refl)

pub returns-then-is_null : goal.returns-then-is_null
returns-then-is_null c = rw c.in-Some.is (λ told. null_is _ c.if-is_null.ensures, λ is. c.if-is_null.true)

pub returns-else-is_null : goal.returns-else-is_null
returns-else-is_null c = rw (c.in-Some.is, c.is_string.ensures) (text_is _ c.if-is_null.ensures)
