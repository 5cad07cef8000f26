use Rattle.std.proofs.Common.{◌⊎◌, ◌∙◌, ◌∷◌, ◌++◌, [], List, subst, sym}
use Rattle.std.specs.Prelude.{Contains}
use Rattle.std.proofs.lemmas.Bool.{false≢true}
use Rattle.seccomp_entries.specs.declared.entry.Action.{Action}
use Rattle.seccomp_warnings.specs.ProfileParts.{AllowBoth, AreActions}
use Rattle.seccomp_warnings.proofs.PartActions.{known, more}
use Rattle.seccomp_warnings.proofs.profile.parts.push_action.Goals as goal

pub returns-then-is_known : goal.returns-then-is_known
returns-then-is_known c = λ asked are. known c.args.default asked c.args.actions.now.items c.args.action are
    (subst (λ (each : List Action). AllowBoth c.args.default c.args.action ⊎ Contains each c.args.action) c.deref.ensures.value
    (c.is_known.ensures.0 c.if-is_known.true))

pub returns : goal.returns
returns c = λ asked are. subst (AreActions c.args.default (asked ++ c.args.action ∷ [])) (sym c.in_ok-push.ensures.items)
    (more c.args.default asked c.args.actions.now.items c.args.action are
    (λ either. false≢true (sym c.if-is_known.false ∙ c.is_known.ensures.1
    (subst (λ (each : List Action). AllowBoth c.args.default c.args.action ⊎ Contains each c.args.action)
    (sym c.deref.ensures.value) either))))
