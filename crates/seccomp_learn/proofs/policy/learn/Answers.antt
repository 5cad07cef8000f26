use Rattle.std.proofs.Common.{◌↔◌, ◌⊎◌, ℕ, List, ap, subst}
use Rattle.std.specs.Prelude.{Any}
use Rattle.seccompiler.specs.JsonEntries.{PoliciesMatchEntries}
use Rattle.seccompiler.specs.JsonPolicyOf.{IsPolicyOf}
use Rattle.seccompiler.specs.JsonTypes.{JsonFilter, JsonRule}
use Rattle.seccomp_learn.specs.Observed.{IsAsNamed}
use Rattle.seccomp_learn.specs.Parts.{MeetsSome}
use Rattle.seccomp_learn.proofs.Entries.{learned_matches}
use Rattle.seccomp_learn.proofs.policy.learn.Goals as goal

pub returns-in-Ok-clause-matches : goal.returns-in-Ok-clause-matches
returns-in-Ok-clause-matches c =
    let arch = c.args.arch in
    let named = λ (r : List ℕ). Any (IsAsNamed arch c.args.kept.now r) c.args.observed.now in
    let pushed = subst (λ (rules : List JsonRule). (r : List ℕ) → MeetsSome arch r c.push_observed.new.rules.items
    ↔ (MeetsSome arch r rules ⊎ named r)) (ap (λ (j : JsonFilter). j.rules) c.old.view_is) c.in_ok-push_observed.ensures in
    let json : JsonFilter = record {
      mismatch_action = c.old.inside.mismatch_action;
      match_action = c.old.inside.match_action;
      rules = c.in_ok-in_order.field-0.items;
    } in
    learned_matches arch c.args.kept.now c.args.observed.now c.args.old json c.in-Ok.filter _
    (subst PoliciesMatchEntries c.new-compiler.ensures c.in-Ok.ensures.entries)
    (subst (λ a. IsPolicyOf a json c.in-Ok.filter) c.new-compiler.ensures c.in-Ok.ensures.policy) c.in_ok-in_order.ensures pushed

pub returns-in-Ok-clause-before : goal.returns-in-Ok-clause-before
returns-in-Ok-clause-before c =
    (c.in_ok-before.before, subst (λ a. IsPolicyOf a c.args.old c.in_ok-before.before) c.new-compiler.ensures c.in_ok-before.ensures.policy)
