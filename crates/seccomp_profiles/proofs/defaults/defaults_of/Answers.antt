use Rattle.std.proofs.Common.{◌≡◌, ◌∷◌, [], ℕ, Bool, true, false, nat_le, ap, refl, ◌∙◌}
use Rattle.std.specs.Prelude.{if◌then◌else◌}
use Rattle.std.proofs.lemmas.Result.{IfOk-weaker}
use Rattle.seccomp_entries.specs.declared.entry.Action.{Action}
use Rattle.seccomp_entries.specs.declared.entry.Action.TheVariants.{Own}
use Rattle.seccompiler.specs.declared.backend.SeccompAction.TheVariants.{KillThread}
use Rattle.seccomp_entries.specs.Entries.{value_of}
use Rattle.seccomp_tree.specs.Decided.{default_for}
use Rattle.seccomp_profiles.specs.Decision.{default_of, IsDefault}
use Rattle.seccomp_profiles.specs.Defaults.{is_above}
use Rattle.seccomp_profiles.specs.Types.{Profile}
use Rattle.seccomp_profiles.proofs.defaults.defaults_of.Goals as goal

-- Of two equal numbers a test picks this one.
either : (b : Bool) (n : ℕ) → (if b then n else n) ≡ n
either true n = refl
either false n = refl

pub returns-clause-values : goal.returns-clause-values
returns-clause-values c =
    let greatest = c.named_in-greatest.result in
    IfOk-weaker c.values_of.result
    (λ values. (n : ℕ) → default_for values.items n ≡ value_of (default_of c.args.abi c.profile.inside.default (is_above greatest n) n))
    (λ values. (n : ℕ) → (action : Action) × IsDefault c.args.abi c.args.container.now c.args.profile.now n action
    × (default_for values.items n ≡ value_of action))
    (λ values own n. (
      default_of c.args.abi c.profile.inside.default (is_above greatest n) n,
      record {
        above = is_above greatest n;
        is_above = c.named_in-greatest.ensures.above n;
        is = ap (λ a. default_of c.args.abi a (is_above greatest n) n) (ap (λ (p : Profile). p.default) c.profile.view_is)
            ∙ ap (λ b. if b then default_of c.args.abi c.args.profile.now.default (is_above greatest n) n else Own KillThread)
            c.if-not-is_listed.ensures;
      },
      own n,
    )) c.values_of.ensures.values

pub returns-then-not-is_listed-clause-values : goal.returns-then-not-is_listed-clause-values
returns-then-not-is_listed-clause-values c n = (
  Own KillThread,
  record {
    above = is_above c.named_in-greatest.result n;
    is_above = c.named_in-greatest.ensures.above n;
    is = ap (λ b. if b then default_of c.args.abi c.args.profile.now.default (is_above c.named_in-greatest.result n) n else Own KillThread)
        c.if-not-is_listed.ensures;
  },
  ap (λ values. default_for values n) (c.in_ok-vec.ensures.items ∙ ap (λ value. value ∷ []) c.from.ensures) ∙ either (nat_le 0 n) 0,
)
