use Rattle.std.proofs.Common.{sym, subst, rules}
use Rattle.seccomp_profiles.specs.Shape.{IsListed, IsArgument}
use Rattle.seccomp_profiles.proofs.lists.ReadLists.{unless_some}
use Rattle.seccomp_profiles.proofs.entries.EntryPart.read.Goals as goal

pub returns-in_default-clause-none : goal.returns-in_default-clause-none
returns-in_default-clause-none c = λ e h. unless_some _ c.in_default.not-Some c.action_under.ensures.none e.action h.action

pub returns-in_default-3-clause-none : goal.returns-in_default-3-clause-none
returns-in_default-3-clause-none c = λ e h. unless_some _ c.in_default-3.not-Some c.in_ok-args.ensures.none e.args
    (subst (λ o. IsListed IsArgument o e.args) (sym c.get-3.ensures) h.args)

pub returns-clause-found : goal.returns-clause-found
returns-clause-found c = record {
  only = search (rules, c.if-not-is_object_of.ensures.0);
  comment = search rules;
  names = search rules;
  action = search rules;
  args = search rules;
  includes = search rules;
  excludes = search rules;
}
