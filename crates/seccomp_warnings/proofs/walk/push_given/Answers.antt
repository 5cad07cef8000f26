use Rattle.std.proofs.Common.{◌≡◌, ◌+◌, ◌∷◌, ◌++◌, [], ◌∙◌, List, ap, append_assoc, get_or, map, subst, sym, take}
use Rattle.std.specs.List.{flat_map}
use Rattle.std.proofs.lemmas.Bool.{false≢true}
use Rattle.std.proofs.lemmas.List.{append-nil, flat_map_more, map_more, take_all}
use Rattle.seccomp_warnings.specs.Warnings.{AreThose, IsGiven, about, codes_about, warnings_about}
use Rattle.seccomp_warnings.specs.declared.code.Code.{Code}
use Rattle.seccomp_warnings.specs.declared.code.Code.TheVariants.{FakeSuccess}
use Rattle.seccomp_warnings.specs.declared.warning.Warning.{Warning}
use Rattle.seccomp_warnings.proofs.Those.{none_more, one_more}
use Rattle.seccomp_warnings.proofs.walk.push_given.Goals as goal
use Rattle.seccomp_warnings.proofs.walk.push_given.Goals.{then-is_given+in_ok-push, else-is_given}

pub loop-code-init : goal.loop-code-init
loop-code-init c = λ front are.
    subst (λ (ws : List Warning). AreThose (IsGiven c.args.allowed.now c.args.verdicts.now c.args.part.now) ws c.args.warnings.now.items)
    (sym (append-nil (flat_map warnings_about front))) are

pub loop-code-preserved : goal.loop-code-preserved
loop-code-preserved c = λ front are.
    let P = IsGiven c.args.allowed.now c.args.verdicts.now c.args.part.now in
    let what = c.args.subject in
    let items : List Code = c.codes_about-code-items.result.now in
    let code : Code = get_or items c.loop-code.code-index FakeSuccess in
    let begun : List Warning = flat_map warnings_about front in
    let asked : List Warning = begun ++ map (about what) (take c.loop-code.code-index items) in
    let old : List Warning = c.loop-code.warnings.items in
    let so_far : AreThose P asked old = c.loop-code.invariant front are in
    subst (λ (ws : List Warning). AreThose P ws c.if-is_given.warnings.items)
    (append_assoc begun (map (about what) (take c.loop-code.code-index items)) (about what code ∷ [])
    ∙ ap (λ (ws : List Warning). begun ++ ws) (sym (map_more (about what) items c.loop-code.code-index _ c.loop-code-test.true)))
    (elim c.if-is_given.branch [
      | then-is_given+in_ok-push w ↦
          rw (w.warnings-is, w.in_ok-push.ensures.items)
          (one_more P asked old (about what code) so_far (c.is_given.ensures.0 w.if-is_given.true))
      | else-is_given w ↦ rw w.warnings-is
          (none_more P asked old (about what code) so_far (λ so. false≢true (sym w.if-is_given.false ∙ c.is_given.ensures.1 so)))
    ])

pub returns : goal.returns
returns c = λ front are.
    let what = c.args.subject in
    let items : List Code = c.codes_about-code-items.result.now in
    let begun : List Warning = flat_map warnings_about front in
    let all : take c.loop-code.code-index items ≡ codes_about what =
    take_all c.loop-code.code-index items c.loop-code-test.false ∙ c.codes_about-code-items.ensures in
    subst (λ (ws : List Warning). AreThose (IsGiven c.args.allowed.now c.args.verdicts.now c.args.part.now) ws c.loop-code.warnings.items)
    (ap (λ (kinds : List Code). begun ++ map (about what) kinds) all ∙ flat_map_more warnings_about [] front what)
    (c.loop-code.invariant front are)
