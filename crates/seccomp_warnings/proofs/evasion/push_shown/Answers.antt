use Rattle.std.proofs.Common.{◌≡◌, ◌∷◌, ◌++◌, [], ◌∙◌, List, ap, rules, sym, subst}
use Rattle.std.specs.Prelude.{All, Contains}
use Rattle.std.proofs.lemmas.Bool.{false≢true}
use Rattle.std.proofs.lemmas.List.Elements.{All-push}
use Rattle.seccomp_warnings.specs.Evasions.{IsEvasion}
use Rattle.seccomp_warnings.specs.declared.evasion.Evasion.{Evasion}
use Rattle.seccomp_warnings.proofs.evasion.push_shown.Goals as goal
use Rattle.seccomp_warnings.proofs.evasion.push_shown.Goals.{in-Some+in_ok-push, in_default}

pub loop-pair-preserved : goal.loop-pair-preserved
loop-pair-preserved c = λ before.
    let P = λ (v : Evasion). IsEvasion c.args.lowered.now v × (Contains c.args.allowed.now v.code → ⊥) in
    elim c.match-evasion_by.branch [
      | in-Some+in_ok-push w ↦
          let v : Evasion = w.in-Some.evasion in
          let pushed : c.match-evasion_by.found.items ≡ c.loop-pair.found.items ++ v ∷ [] = rw w.found-is w.in_ok-push.ensures.items in
          let is : IsEvasion c.args.lowered.now v = search rules in
          let not : Contains c.args.allowed.now v.code → ⊥ = λ has.
          false≢true (sym c.if-is_among.false ∙ c.is_among.ensures.1 (subst (Contains c.args.allowed.now) (search rules) has)) in
          subst (All P) (sym pushed) (All-push P c.loop-pair.found.items v (c.loop-pair.invariant before) (is, not))
      | in_default w ↦ subst (All P) (sym (ap (λ v. v.items) w.found-is)) (c.loop-pair.invariant before)
    ]
