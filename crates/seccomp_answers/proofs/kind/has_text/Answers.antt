use Rattle.serde_json.specs.View.{view}
use Rattle.seccomp_answers.proofs.kind.Keys.{is_text, no_text}
use Rattle.seccomp_answers.proofs.kind.has_text.Goals as goal

pub returns-in-Some : goal.returns-in-Some
returns-in-Some c = is_text c.args.name.now (view c.args.value.now) (view c.in-Some.found.now) c.is_string.result
    (rw c.in-Some.is at c.get.ensures) c.is_string.ensures

pub returns-in-None : goal.returns-in-None
returns-in-None c =
    (λ yes. absurd cc, λ has. absurd (no_text c.args.name.now (view c.args.value.now) (rw c.in-None.is at c.get.ensures) has))
