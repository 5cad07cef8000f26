use Rattle.std.proofs.Common.{Option, Some, None, sym, ◌∙◌}
use Rattle.std.specs.Prelude.{IfNone}
use Rattle.std.proofs.lemmas.Bool.{true≢false}
use Rattle.std.proofs.lemmas.Result.{IfOk-weaker}
use Rattle.serde_json.specs.Data.{Data, null}
use Rattle.serde_json.specs.View.{view}
use Rattle.seccomp_profiles.specs.ProfileShape.{AreCriteria, AreCriteriaOr}
use Rattle.seccomp_profiles.specs.Shape.{IsAbsent}
use Rattle.seccomp_profiles.specs.Types.{Criteria}
use Rattle.seccomp_profiles.proofs.entries.criteria_under.Goals as goal

-- What stands there, and isn't null, is criteria where it is these.
there : (d : Data) → (IsAbsent (Some d) → ⊥) → (k : Criteria) → AreCriteriaOr (Some d) k → AreCriteria d k
there null not k are = absurd (not tt)
there d not k are = are

none_there : (d : Data) → (IsAbsent (Some d) → ⊥) → (o : Option Criteria) → IfNone o ((k : Criteria) → AreCriteria d k → ⊥)
    → IfNone o ((k : Criteria) → AreCriteriaOr (Some d) k → ⊥)
none_there d not None none = λ k are. none k (there d not k are)
none_there d not (Some k) none = tt

pub returns-in-Some-clause-none : goal.returns-in-Some-clause-none
returns-in-Some-clause-none c =
    let d = view c.in-Some.value.now in
    let absent = rw c.in-Some.is at c.is_absent.ensures in
    rw c.in-Some.is (IfOk-weaker c.read_criteria.result (λ o. IfNone o ((k : Criteria) → AreCriteria d k → ⊥))
    (λ o. IfNone o ((k : Criteria) → AreCriteriaOr (Some d) k → ⊥))
    (λ o none. none_there d (λ is. true≢false (sym (absent.1 is) ∙ c.if-is_absent.false)) o none) c.read_criteria.ensures.none)
