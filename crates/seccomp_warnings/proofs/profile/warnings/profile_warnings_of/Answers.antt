use Rattle.std.proofs.Common.{◌≡◌, ◌∙◌, ◌++◌, All, List, ap, map, rules, subst, sym}
use Rattle.std.proofs.lemmas.List.Elements.{All-append}
use Rattle.seccomp_entries.specs.Entries.{Entry, Lowered}
use Rattle.seccomp_profiles.specs.Types.{Profile}
use Rattle.seccomp_warnings.specs.Evasions.{AreEvasions}
use Rattle.seccomp_warnings.specs.ProfileParts.{effective_in}
use Rattle.seccomp_warnings.specs.ProfileWarnings.{AreTold, IsTrueOf}
use Rattle.seccomp_warnings.specs.declared.evasion.Evasion.{Evasion}
use Rattle.seccomp_warnings.specs.declared.profile.warnings.ProfileWarning.{ProfileWarning}
use Rattle.seccomp_warnings.specs.declared.profile.warnings.ProfileWarning.TheVariants.{AbiEvaded}
use Rattle.seccomp_warnings.proofs.Said.{told_are}
use Rattle.seccomp_warnings.proofs.profile.warnings.profile_warnings_of.Goals as goal

pub push_evaded-requires : goal.push_evaded-requires
push_evaded-requires c = subst (λ (vs : List Evasion). AreEvasions c.args.allowed.now c.in_ok-lowered.lowered vs)
    (sym c.deref-4.ensures.value) c.in_ok-evasions.ensures

pub returns : goal.returns
returns c =
    let p : Profile = c.args.profile.now in
    let l : Lowered = c.in_ok-lowered.lowered in
    let allowed = c.args.allowed.now in
    let own : List ProfileWarning = c.push_evaded.new.all.items in
    let told : List ProfileWarning = c.in_ok-told.told.items in
    let read : c.deref.result.now ≡ l.entries = search rules in
    let effective : c.deref-5.result.now ≡ effective_in l.entries =
    c.deref-5.ensures.value ∙ c.in_ok-effective.ensures ∙ ap (λ (es : List Entry). effective_in es) read in
    let told_is : AreTold allowed l.target_arch p.default (effective_in l.entries) told =
    subst (λ arch. AreTold allowed arch p.default (effective_in l.entries) told) (sym c.in_ok-lowered.ensures.lowered.target_arch)
    (subst (λ default. AreTold allowed c.args.target default (effective_in l.entries) told)
    (ap (λ (p : Profile). p.default) c.profile.view_is)
    (subst (λ (es : List Entry). AreTold allowed c.args.target c.profile.inside.default es told) effective c.in_ok-told.ensures)) in
    record {
      lowered = l;
      is_lowered = c.in_ok-lowered.ensures.lowered;
      decides = c.in_ok-lowered.ensures.decides;
      others = c.push_lacked.new.all.items;
      on_abis = c.in_ok-on_abis.on_abis.items;
      are_all = c.in_ok-push_on_abis.ensures
          ∙ ap (λ vs. c.push_lacked.new.all.items ++ map AbiEvaded vs) c.deref-6.ensures.value;
      are = c.in_ok-push_lacked.ensures l (subst (All (IsTrueOf allowed p l)) (sym c.in_ok-append.ensures.items)
          (All-append (IsTrueOf allowed p l) own told (c.in_ok-push_evaded.ensures p c.in_ok-all.ensures)
          (told_are allowed p l told told_is)));
      are_on_abis = c.in_ok-on_abis.ensures;
    }
