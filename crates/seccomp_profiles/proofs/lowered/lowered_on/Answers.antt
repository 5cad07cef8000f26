use Rattle.std.proofs.Common.{true, false, ap, subst, sym, ◌∙◌}
use Rattle.seccomp_profiles.specs.Types.{AllOnArguments, Profile}
use Rattle.seccomp_profiles.proofs.taken.OnArguments.{listed_on}
use Rattle.seccomp_profiles.proofs.lowered.lowered_on.Goals as goal

pub lowered_of-requires-in-I386 : goal.lowered_of-requires-in-I386
lowered_of-requires-in-I386 c = subst AllOnArguments (sym (c.as_slice.ensures.value ∙ c.in_ok-own-in-I386.ensures))
    (listed_on c.profile.inside.lists_x86 true c.as_slice-entries.result.now (subst AllOnArguments
    (sym (c.as_slice-entries.ensures.value ∙ ap (λ (p : Profile). p.entries) c.profile.view_is)) c.requires))

pub lowered_of-requires-in-X32 : goal.lowered_of-requires-in-X32
lowered_of-requires-in-X32 c = subst AllOnArguments (sym (c.as_slice-in-X32.ensures.value ∙ c.in_ok-own-in-X32.ensures))
    (listed_on c.profile.inside.lists_x32 false c.as_slice-entries.result.now (subst AllOnArguments
    (sym (c.as_slice-entries.ensures.value ∙ ap (λ (p : Profile). p.entries) c.profile.view_is)) c.requires))
