use Rattle.std.proofs.Common.{◌≡◌, ℕ, List, Result, Option, IfOk, MatchOption, subst, sym, rules}
use Rattle.seccomp_compare.specs.declared.Relation.{Relation}
use Rattle.seccomp_compare.specs.Compare.{AnswersRelated, AnswersUnrelated}
use Rattle.seccomp_compare.specs.Machine.{IsChecked}
use Rattle.seccompiler_c.specs.declared.code.Code.{Code}
use Rattle.seccompiler_c.specs.Comparisons.{Compared, relation_number, IsAsked, AreNoCalls, OfRelation}
use Rattle.seccompiler_c.proofs.comparison.compare_programs.Goals.{in-Ok-Holds, in-Ok-Fails, in-Ok-Undecided, in-Err}
use Rattle.seccompiler_c.proofs.comparison.compare_programs.Goals as goal

-- what is said of two programs that may be run, of calls and of a relation
of_relation : (c : Compared) (relation : Relation) (P : Relation → Type 0) → (AreNoCalls c.calls → ⊥) → IsChecked c.program
    → IsChecked c.other → c.relation ≡ relation_number relation → P relation → OfRelation c P
of_relation c relation P some program other is holds = (some, (program, other), (relation, is, holds))

pub returns-clause-compared : goal.returns-clause-compared
returns-clause-compared c =
    let p = c.args.program.now in
    let q = c.args.other.now in
    let relation = c.in-Some-relation_of.relation in
    let found = c.in-Some.ensures.found in
    let p_checked : IsChecked p = search rules in
    let q_checked : IsChecked q = search rules in
    let asked : Compared = record { program = p; other = q; relation = c.args.relation; calls = c.args.asked } in
    let Answer : Result (Option (List ℕ)) Code → Type 0 =
    λ result. IfOk result (λ answer. OfRelation asked (λ related. MatchOption answer
    ((r : List ℕ) → IsAsked c.args.asked r → AnswersRelated related p q r)
    (λ r. IsAsked c.args.asked r × AnswersUnrelated related p q r))) in
    elim c.match-compare.branch [
      | in-Ok-Holds w ↦
          let known = rw w.in-Ok-Holds.field-0-is at w.in-Ok-Holds.ensures.compares in
          subst Answer (sym w.result-is) (of_relation asked relation _ c.in-Some.ensures.some p_checked q_checked
          c.in-Some-relation_of.ensures.found (λ r own. known r ((found r).1 own)))
      | in-Ok-Fails w ↦
          let known = rw w.in-Ok-Fails.field-0-is at w.in-Ok-Fails.ensures.compares in
          subst Answer (sym w.result-is) (of_relation asked relation _ c.in-Some.ensures.some p_checked q_checked
          c.in-Some-relation_of.ensures.found ((found _).0 known.0, known.1))
      | in-Ok-Undecided w ↦ subst Answer (sym w.result-is) tt
      | in-Err w ↦ subst Answer (sym w.result-is) tt
    ]
