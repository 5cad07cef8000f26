use Rattle.std.proofs.Common.{codes, sym, refl}
use Rattle.serde_json.specs.View.{view}
use Rattle.seccompiler.specs.JsonShape.{IsEntry, IsListOf}
use Rattle.seccompiler.proofs.json.members.FoundMembers.{own_found, none_found}
use Rattle.seccompiler.proofs.json.parts.read_filter.Goals as goal

pub returns-in_default : goal.returns-in_default
returns-in_default c f is = c.in_default.ensures.none is.names

pub returns-in_default-rules : goal.returns-in_default-rules
returns-in_default-rules c f is = none_found _ (view c.args.value.now) (codes "filter")
    (rw c.in_default-rules.is at c.in-Some.ensures.found.1.1.1.1.0) is.rules

pub returns-in_default-read_one_action : goal.returns-in_default-read_one_action
returns-in_default-read_one_action c f is = let found = c.in-Some.ensures.found in
    rw (found.0, found.1.0) at c.in_default-read_one_action.ensures f.mismatch_action is.mismatch_action

pub returns-in_default-read_one_action-2 : goal.returns-in_default-read_one_action-2
returns-in_default-read_one_action-2 c f is = let found = c.in-Some.ensures.found in
    rw (found.1.1.0, found.1.1.1.0) at c.in_default-read_one_action-2.ensures f.match_action is.match_action

pub returns-in-Ok-Some : goal.returns-in-Ok-Some
returns-in-Ok-Some c =
    let found = c.in-Some.ensures.found in
    record {
      names = c.in-Some.ensures.names refl;
      mismatch_action = rw (found.0, found.1.0) at c.in-Some-read_one_action.ensures;
      match_action = rw (found.1.1.0, found.1.1.1.0) at c.in-Some-read_one_action-2.ensures;
      rules = (
        view c.in-Some-rules.rules.now,
        sym (rw c.in-Some-rules.is at found.1.1.1.1.0),
        rw c.in-Ok-Some.field-0-is at c.in-Ok-Some.ensures,
      );
    }

pub returns-in-Ok-None : goal.returns-in-Ok-None
returns-in-Ok-None c f is = rw c.in-Ok-None.field-0-is at c.in-Ok-None.ensures f.rules
    (own_found (λ value. IsListOf IsEntry value f.rules) (view c.args.value.now) _ (codes "filter")
    (rw c.in-Some-rules.is at c.in-Some.ensures.found.1.1.1.1.0) is.rules)
