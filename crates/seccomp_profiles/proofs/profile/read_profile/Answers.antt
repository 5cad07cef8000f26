use Rattle.std.proofs.Common.{sym, subst, rules}
use Rattle.seccomp_profiles.specs.Shape.{IsListed, IsFlag}
use Rattle.seccomp_profiles.specs.ProfileShape.{IsEntry}
use Rattle.seccomp_profiles.proofs.lists.ReadLists.{unless_some}
use Rattle.seccomp_profiles.proofs.profile.Arguments.{listed_arguments}
use Rattle.seccomp_profiles.proofs.profile.Objects.{keys_are, no_object}
use Rattle.seccomp_profiles.proofs.profile.read_profile.Goals as goal

pub returns-in_default-clause-none : goal.returns-in_default-clause-none
returns-in_default-clause-none c = λ p h. no_object c.args.value.now c.in_default.not-Object p.unknown_keys h.unknown_keys

pub returns-in_default-action_under-clause-none : goal.returns-in_default-action_under-clause-none
returns-in_default-action_under-clause-none c = λ p h.
    unless_some _ c.in_default-action_under.not-Some c.action_under.ensures.none p.default h.default

pub returns-in_default-2-clause-none : goal.returns-in_default-2-clause-none
returns-in_default-2-clause-none c = λ p h. unless_some _ c.in_default-2.not-Some c.in_ok-flags.ensures.none p.flags
    (subst (λ o. IsListed IsFlag o p.flags) (sym c.get-2.ensures) h.flags)

pub returns-in_default-3-clause-none : goal.returns-in_default-3-clause-none
returns-in_default-3-clause-none c = λ p h. unless_some _ c.in_default-3.not-Some c.in_ok-entries.ensures.none p.entries
    (subst (λ o. IsListed IsEntry o p.entries) (sym c.get-3.ensures) h.entries)

pub returns-clause-arguments : goal.returns-clause-arguments
returns-clause-arguments c = listed_arguments _ _ (rw c.in-Some-3.is at c.in_ok-entries.ensures.found)

pub returns-clause-found : goal.returns-clause-found
returns-clause-found c = record {
  architectures = search rules;
  arch_map = search rules;
  default = search rules;
  flags = search rules;
  entries = search rules;
  lists_x86 = search rules;
  lists_x32 = search rules;
  unknown_architecture = search rules;
  has_listener = search rules;
  unknown_keys = keys_are c.args.value.now c.in-Object.members _ c.in-Object.is c.in_ok-unknown_keys.ensures;
}
