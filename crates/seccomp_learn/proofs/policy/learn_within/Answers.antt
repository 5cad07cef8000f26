use Rattle.std.proofs.Common.{◌↔◌, ◌⊎◌, ℕ, List, Any, subst}
use Rattle.seccompiler.specs.JsonPolicyOf.{IsPolicyOf}
use Rattle.seccompiler.specs.Policy.{Filter, Matches}
use Rattle.seccomp_learn.specs.declared.observation.Kept.{Kept}
use Rattle.seccomp_learn.specs.Observed.{IsAsNamed}
use Rattle.seccomp_learn.proofs.policy.learn_within.Goals as goal

pub returns-clause-learned : goal.returns-clause-learned
returns-clause-learned c =
    let own = c.in_ok-learned.ensures in
    let named = λ (kept : List Kept) (r : List ℕ). Any (IsAsNamed c.args.arch kept r) c.args.observed.now in
    record {
      policy = own.policy;
      before = own.before;
      mismatch_action = own.actions.0;
      match_action = own.actions.1;
      matches = subst (λ (kept : List Kept). (before : Filter) → IsPolicyOf c.args.arch c.args.old before → (r : List ℕ)
          → Matches c.in_ok-learned.learned.filter r ↔ (Matches before r ⊎ named kept r)) c.deref.ensures.value own.matches;
      among = c.in_ok-kept.ensures.among;
      few = c.in_ok-kept.ensures.few;
      left_out = c.in_ok-kept.ensures.left_out;
    }
