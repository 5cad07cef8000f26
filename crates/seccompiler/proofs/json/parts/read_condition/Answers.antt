use Rattle.std.proofs.Common.{codes, sym, refl}
use Rattle.serde_json.specs.View.{view}
use Rattle.seccompiler.specs.JsonShape.{IsArgLen, IsOperator}
use Rattle.seccompiler.proofs.json.members.FoundMembers.{own_found, none_found}
use Rattle.seccompiler.proofs.json.parts.read_condition.Goals as goal

pub returns-in_default : goal.returns-in_default
returns-in_default c t is = c.in_default.ensures.none is.names

pub returns-then-not-is_comment : goal.returns-then-not-is_comment
returns-then-not-is_comment c t is =
    let told = (rw c.in-Some.ensures.found.1.1.1.1.0 at c.if-not-is_comment.ensures).1 is.comment in cc

pub returns-in_default-whole_number : goal.returns-in_default-whole_number
returns-in_default-whole_number c t is = c.in_default-whole_number.ensures (view c.args.value.now) (codes "index") c.in-Some.ensures.found.0
    t.arg_index is.arg_index

pub returns-in_default-arg_len : goal.returns-in_default-arg_len
returns-in_default-arg_len c t is = none_found _ (view c.args.value.now) (codes "type")
    (rw c.in_default-arg_len.is at c.in-Some.ensures.found.1.0) is.arg_len

pub returns-in_default-read_arg_len : goal.returns-in_default-read_arg_len
returns-in_default-read_arg_len c t is = c.in_default-read_arg_len.ensures.none t.arg_len
    (own_found (λ value. IsArgLen value t.arg_len) (view c.args.value.now) _ (codes "type")
    (rw c.in-Some-arg_len.is at c.in-Some.ensures.found.1.0) is.arg_len)

pub returns-in_default-operator : goal.returns-in_default-operator
returns-in_default-operator c t is = none_found _ (view c.args.value.now) (codes "op")
    (rw c.in_default-operator.is at c.in-Some.ensures.found.1.1.0) is.operator

pub returns-in_default-read_operator : goal.returns-in_default-read_operator
returns-in_default-read_operator c t is = c.in_default-read_operator.ensures.none t.operator
    (own_found (λ value. IsOperator value t.operator) (view c.args.value.now) _ (codes "op")
    (rw c.in-Some-operator.is at c.in-Some.ensures.found.1.1.0) is.operator)

pub returns-in_default-whole_number-2 : goal.returns-in_default-whole_number-2
returns-in_default-whole_number-2 c t is = c.in_default-whole_number-2.ensures (view c.args.value.now) (codes "val")
    c.in-Some.ensures.found.1.1.1.0 t.value is.value

pub returns : goal.returns
returns c =
    let found = c.in-Some.ensures.found in
    record {
      names = c.in-Some.ensures.names refl;
      comment = (rw found.1.1.1.1.0 at c.if-not-is_comment.ensures).0 refl;
      arg_index = c.in-Some-whole_number.ensures (view c.args.value.now) (codes "index") found.0;
      arg_len = (view c.in-Some-arg_len.arg_len.now, sym (rw c.in-Some-arg_len.is at found.1.0), c.in-Some-read_arg_len.ensures.found);
      operator = (
        view c.in-Some-operator.operator.now,
        sym (rw c.in-Some-operator.is at found.1.1.0),
        c.in-Some-read_operator.ensures.found,
      );
      value = c.in-Some-whole_number-2.ensures (view c.args.value.now) (codes "val") found.1.1.1.0;
    }
