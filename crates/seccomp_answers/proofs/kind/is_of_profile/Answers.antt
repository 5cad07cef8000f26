use Rattle.std.proofs.Common.{subst}
use Rattle.serde_json.specs.View.{view}
use Rattle.seccompiler.specs.JsonAnswers.{IsReadAs}
use Rattle.seccomp_answers.specs.Kinds.{NamesProfile}
use Rattle.seccomp_answers.proofs.Readings.{one_value}
use Rattle.seccomp_answers.proofs.kind.Policies.{tests_no_policy}
use Rattle.seccomp_answers.proofs.kind.is_of_profile.Goals as goal

pub returns-clause-taken : goal.returns-clause-taken
returns-clause-taken c =
    let read : IsReadAs c.args.text.now (view c.in-Some.value) = rw c.in-Some.is at c.in_ok-value.ensures in (
      λ yes. record {
        key = c.has_key.ensures.0 cc;
        value = view c.in-Some.value;
        is_read = read;
        names = c.names_profile-is.ensures.0 yes;
      },
      λ is. c.names_profile-is.ensures.1 (subst NamesProfile (one_value c.args.text.now is.value (view c.in-Some.value) is.is_read read)
          is.names),
    )

pub returns-clause-no_policy : goal.returns-clause-no_policy
returns-clause-no_policy c = tests_no_policy c.args.text.now c.names_profile-is.result (returns-clause-taken c).0
