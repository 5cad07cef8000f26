use Rattle.std.proofs.Common.{codes, sym, refl, ap, ◌∙◌}
use Rattle.serde_json.specs.Data.{string}
use Rattle.serde_json.specs.View.{view}
use Rattle.seccompiler.proofs.json.members.FoundMembers.{none_found, view_text}
use Rattle.seccompiler.proofs.json.parts.read_entry.Goals as goal

pub returns-in_default : goal.returns-in_default
returns-in_default c r is = c.in_default.ensures.none is.names

pub returns-then-not-is_comment : goal.returns-then-not-is_comment
returns-then-not-is_comment c r is = let told = (rw c.in-Some.ensures.found.1.1.0 at c.if-not-is_comment.ensures).1 is.comment in cc

pub returns-in_default-syscall : goal.returns-in_default-syscall
returns-in_default-syscall c r is = none_found _ (view c.args.value.now) (codes "syscall")
    (rw c.in_default-syscall.is at c.in-Some.ensures.found.0) is.syscall

pub returns-in-Ok-Some : goal.returns-in-Ok-Some
returns-in-Ok-Some c =
    let found = c.in-Some.ensures.found in
    record {
      names = c.in-Some.ensures.names refl;
      comment = (rw found.1.1.0 at c.if-not-is_comment.ensures).0 refl;
      syscall = (
        view c.in-Some-syscall.syscall.now,
        sym (rw c.in-Some-syscall.is at found.0),
        ap view c.in-String.is ∙ view_text c.in-String.syscall ∙ ap string (sym c.as_str.ensures.value),
      );
      conditions = rw (c.in-Ok-Some.field-0-is, found.1.0) at c.in-Ok-Some.ensures;
    }

pub returns-in-Ok-None : goal.returns-in-Ok-None
returns-in-Ok-None c r is = rw (c.in-Ok-None.field-0-is, c.in-Some.ensures.found.1.0) at c.in-Ok-None.ensures r.conditions is.conditions
