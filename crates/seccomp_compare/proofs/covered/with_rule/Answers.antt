use Rattle.std.proofs.Common.{◌≡◌, List, [], ◌∷◌, ◌++◌, ◌∙◌, subst, refl, ⊎_elim}
use Rattle.std.specs.List.{list_any}
use Rattle.std.proofs.lemmas.List.Folds.{list_any-append}
use Rattle.std.proofs.lemmas.List.Quantifiers.{Any-push}
use Rattle.seccompiler.specs.Policy.{Rule, RuleHolds}
use Rattle.seccomp_compare.specs.Cover.{OnRule, OnRules, compares}
use Rattle.seccomp_compare.specs.declared.covered.Seen.{Seen}
use Rattle.seccomp_compare.specs.declared.covered.Seen.TheVariants.{Fails, Holds, Open}
use Rattle.seccomp_compare.specs.declared.known.Known.{Known}
use Rattle.seccomp_compare.proofs.KnownBits.{any_cases, or_right}
use Rattle.seccomp_compare.proofs.covered.with_rule.Goals as goal

-- one more rule, behind those of which none holds
behind : (part : List Known) (own : Rule) (front : List Rule) (rule : Rule) (seen : Seen) → OnRules part own front Fails
    → OnRule part own rule seen → (seen ≡ Holds → ⊥) → OnRules part own (front ++ rule ∷ []) seen
behind part own front rule Holds none is not = absurd (not refl)
behind part own front rule Fails none is not = λ r rec has met any.
    ⊎_elim (λ before. none r rec has met before) (λ holds. is r rec has met holds) (any_cases (λ q. RuleHolds q r) front rule any)
behind part own front rule (Open i j) none is not = record {
  index = is.index;
  place = is.place;
  unknown = is.unknown;
  compared = list_any-append (list_any (compares i j)) front (rule ∷ []) ∙ or_right _ _ is.compared;
}

pub returns-in-Holds-default : goal.returns-in-Holds-default
returns-in-Holds-default c = λ front _ r rec has met.
    Any-push (λ q. RuleHolds q r) front c.args.rule.now (c.in-Holds-default.ensures r rec has met)

pub returns-in_default-Fails : goal.returns-in_default-Fails
returns-in_default-Fails c = λ front on.
    behind c.args.part.now c.args.own.now front c.args.rule.now c.on_rule.result
    (subst (λ (s : Seen). OnRules c.args.part.now c.args.own.now front s) c.in_default-Fails.is-1 on) c.on_rule.ensures
    c.in_default-Fails.not-Holds-0
