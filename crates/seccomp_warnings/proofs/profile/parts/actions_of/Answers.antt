use Rattle.std.proofs.Common.{◌≡◌, ◌∙◌, ◌+◌, ◌∷◌, ◌++◌, [], List, ap, get_or, map, subst, sym, take}
use Rattle.std.proofs.lemmas.List.{map_more, take_all}
use Rattle.seccomp_entries.specs.declared.entry.Action.{Action}
use Rattle.seccomp_entries.specs.declared.entry.Action.TheVariants.{Own}
use Rattle.seccompiler.specs.declared.backend.SeccompAction.TheVariants.{Allow}
use Rattle.seccomp_entries.specs.Entries.{Entry}
use Rattle.seccomp_warnings.specs.ProfileParts.{AreActions, actions_in}
use Rattle.seccomp_warnings.proofs.PartActions.{nothing}
use Rattle.seccomp_warnings.proofs.profile.parts.actions_of.Goals as goal

pub loop-entry-init : goal.loop-entry-init
loop-entry-init c =
    c.in_ok-push_action.ensures [] (subst (AreActions c.args.default []) (sym c.new-actions.ensures.items) (nothing c.args.default))

pub loop-entry-preserved : goal.loop-entry-preserved
loop-entry-preserved c =
    let l = c.loop-entry in
    let es = c.args.entries.now in
    let e : Entry = c.entry-item.result in
    let action = λ (x : Entry). x.action in
    let action_is : c.entry.inside.action ≡ action (get_or es l.entry-index e) = ap action (c.entry.view_is ∙ c.entry-item.is) in
    let longer : actions_in (take (l.entry-index + 1) es) ≡ actions_in (take l.entry-index es) ++ c.entry.inside.action ∷ [] =
    ap (λ (all : List Action). Own Allow ∷ all) (map_more action es l.entry-index e c.loop-entry-test.true
    ∙ ap (λ (a : Action). map action (take l.entry-index es) ++ a ∷ []) (sym action_is)) in
    subst (λ (xs : List Action). AreActions c.args.default xs c.push_action-in-loop-entry.new.actions.items) (sym longer)
    (c.in_ok-push_action-2.ensures (actions_in (take l.entry-index es)) l.invariant)

pub returns : goal.returns
returns c = subst (λ (xs : List Entry). AreActions c.args.default (actions_in xs) c.loop-entry.actions.items)
    (take_all c.loop-entry.entry-index c.args.entries.now c.loop-entry-test.false) c.loop-entry.invariant
