use Rattle.seccomptool.proofs.Common.{◌≡◌, AnswerError, JsonFilter, Learn, List, Option, err_from_is_err_and, found_in, inl, inr}
use Rattle.seccomptool.proofs.Common.{string_bytes, text_of, ℕ}
use Rattle.std.specs.Prelude.{◌⊎◌}
use Rattle.seccompiler.specs.Errors.{from_frontend}
use Rattle.seccompiler.specs.JsonSteps.{IsPolicyRefusal}
use Rattle.seccompiler.specs.declared.json.error.JsonFrontendError.{JsonFrontendError}
use Rattle.seccomp_answers.specs.Errors.{from_library}
use Rattle.seccomptool.specs.Learn.{IsBase, IsUnpickedInto, IsUntaught, no_policy, unpicked, untaken}
use Rattle.seccomptool.proofs.learn.learned_of.Goals as goal

untaught_by : (asked : Learn) (text name : List ℕ) (base : JsonFilter) (others : List ℕ → Option JsonFilter)
    → IsBase asked.start (text_of asked.name) text name base others → (cause : JsonFrontendError) → IsPolicyRefusal asked.arch base cause
    → (e : AnswerError) → IsUnpickedInto asked text e ⊎ (e ≡ from_library (from_frontend cause)) → IsUntaught asked text e
untaught_by asked text name base others is cause refused e (inl into) = unpicked into
untaught_by asked text name base others is cause refused e (inr same) = no_policy name base others is cause refused same

pub returns-in-Err-clause-cause : goal.returns-in-Err-clause-cause
returns-in-Err-clause-cause c = untaught_by c.args.asked.now c.args.policy.now (string_bytes c.in_ok-name.name) c.in_ok-name.filter
    (found_in c.in_ok-name.others) c.in_ok-name.ensures.base c.in-Err.refusal c.in-Err.ensures.refused c.untaught.result c.untaught.ensures

pub returns-in_err-refuse_errno-clause-cause : goal.returns-in_err-refuse_errno-clause-cause
returns-in_err-refuse_errno-clause-cause c =
    let error = err_from_is_err_and c.from_residual-in_err-refuse_errno.result c.from_residual-in_err-refuse_errno.ensures.1 in
    rw (error.1, error.2) (untaken (string_bytes c.in_ok-name.name) c.in_ok-name.filter (found_in c.in_ok-name.others)
    c.in_ok-name.ensures.base c.in_err-refuse_errno.ensures.cause)
