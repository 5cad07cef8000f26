-- For the functions of `profile::warnings` and `profile::told`: what is told of parts is so of a profile.
use Rattle.std.proofs.Common.{◌≡◌, ◌++◌, ◌∙◌, List, [], ◌∷◌, All, Contains, Option, ap, get_or, map, sym, subst}
use Rattle.std.specs.Prelude.{Any}
use Rattle.std.proofs.lemmas.List.Elements.{All-append, All-cons, All-contains, All-contains_itself, All-map, All-nil, All-weaker}
use Rattle.seccomp_entries.specs.Entries.{Lowered}
use Rattle.seccomp_profiles.specs.Types.{Profile}
use Rattle.seccomp_warnings.specs.ProfileParts.{effective_in}
use Rattle.seccomp_warnings.specs.ProfileWarnings.{AreTold, IsOfPart, IsTrueOf, IsWarningOf, origins_of}
use Rattle.seccomp_warnings.specs.Warnings.{IsGiven, subjects_in, warnings_about}
use Rattle.seccomp_warnings.specs.declared.profile.parts.Origin.{Origin}
use Rattle.seccomp_warnings.specs.declared.profile.warnings.ProfileWarning.{ProfileWarning}
use Rattle.seccomp_warnings.specs.declared.profile.warnings.ProfileWarning.TheVariants.{AbiEvaded, Clashing, Doubtful, Evaded, Flags}
use Rattle.seccomp_warnings.specs.declared.profile.warnings.ProfileWarning.TheVariants.{Lacked, OfEntries, UnknownArchitecture, UnknownKey}
use Rattle.std.specs.List.{flat_map}
use Rattle.seccomp_warnings.specs.Parts.{Part}
use Rattle.seccomp_warnings.specs.declared.code.Code.{Code}
use Rattle.seccomp_warnings.specs.declared.warning.Warning.{Warning}
use Rattle.seccomp_warnings.proofs.Those.{those_are}

module _ (allowed : List Code) where
  -- One more warning of a part.
  pub told_more : (q : Part) (w : Warning) (old new : List ProfileWarning) → IsWarningOf allowed q w → All (IsOfPart allowed q) old
      → new ≡ old ++ map (OfEntries w) (origins_of q w.subject) → All (IsOfPart allowed q) new
  told_more q w old new of so grown =
      let origins = origins_of q w.subject in
      subst (All (IsOfPart allowed q)) (sym grown) (All-append (IsOfPart allowed q) old (map (OfEntries w) origins) so
      (All-map (IsOfPart allowed q) (OfEntries w) origins
      (All-weaker (Contains origins) (λ o. IsOfPart allowed q (OfEntries w o)) (λ o there. (of, there)) origins
      (All-contains_itself origins))))

  -- A warning of a part has no allowed code.
  not_allowed : (q : Part) (w : Warning) → IsWarningOf allowed q w → Contains allowed w.code → ⊥
  not_allowed q w of = (All-contains (IsGiven allowed of.own.verdicts.items q) of.own.warnings.items w
      (those_are (IsGiven allowed of.own.verdicts.items q) (flat_map warnings_about (subjects_in q)) of.own.warnings.items of.are.warnings)
      of.among).1

  module _ (p : Profile) (l : Lowered) where
    told_one : (parts : List Part) (w : ProfileWarning) → Any (λ q. IsOfPart allowed q w) parts
        → AreTold allowed l.target_arch p.default (effective_in l.entries) (w ∷ []) → IsTrueOf allowed p l w
    told_one parts (OfEntries w origin) (k, q, within, is, own) alone = ((allowed, alone), not_allowed q w own.0)
    told_one parts (Doubtful d) (k, q, within, is, never) alone = absurd never
    told_one parts (Clashing c) (k, q, within, is, never) alone = absurd never
    told_one parts Flags (k, q, within, is, never) alone = absurd never
    told_one parts (UnknownKey key) (k, q, within, is, never) alone = absurd never
    told_one parts (UnknownArchitecture place) (k, q, within, is, never) alone = absurd never
    told_one parts (Evaded v origin) (k, q, within, is, never) alone = absurd never
    told_one parts (AbiEvaded v) (k, q, within, is, never) alone = absurd never
    told_one parts (Lacked named) (k, q, within, is, never) alone = absurd never

    pub told_are : (told : List ProfileWarning) → AreTold allowed l.target_arch p.default (effective_in l.entries) told
        → All (IsTrueOf allowed p l) told
    told_are told are k d within = told_one are.parts (get_or told k d) (are.each k d within) (record {
      parts = are.parts;
      are_parts = are.are_parts;
      each = All-cons (λ w. Any (λ q. IsOfPart allowed q w) are.parts) (get_or told k d) [] (are.each k d within)
          (All-nil (λ w. Any (λ q. IsOfPart allowed q w) are.parts));
    })
