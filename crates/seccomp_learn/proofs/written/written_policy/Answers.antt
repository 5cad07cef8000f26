use Rattle.std.proofs.Common.{◌≡◌, ◌∙◌, List, ℕ, Option, ap, sym, subst}
use Rattle.seccompiler.specs.Equality.{filter_decides, filter_map_decides}
use Rattle.seccompiler.specs.JsonAnswers.{IsValueOf}
use Rattle.seccompiler.specs.JsonFilters.{AreFound}
use Rattle.seccompiler.specs.JsonShape.{IsFilter}
use Rattle.seccompiler.specs.JsonTypes.{JsonFilter}
use Rattle.seccomp_learn.specs.Written.{beside, found_in}
use Rattle.seccomp_learn.proofs.Beside.{same_filters}
use Rattle.seccomp_learn.proofs.written.written_policy.Goals as goal

pub returns-in-Some-clause-written : goal.returns-in-Some-clause-written
returns-in-Some-clause-written c =
    let read = c.in_ok-read.ensures.filters in
    let name = c.args.name.now in
    let wanted = c.args.filter.now in
    let others = c.args.others.now in
    let left = c.take_filter.new.filters in
    let same : c.in-Some.found ≡ wanted = (filter_decides c.in-Some.found wanted).0 (sym c.if-eq.ensures) in
    let alike : found_in left ≡ found_in others = same_filters left others ((filter_map_decides left others).0 (sym c.if-eq-2.ensures)) in
    let is : found_in c.in_ok-read.read ≡ beside (found_in others) name wanted =
    c.in-Some.ensures.taken
    ∙ ap (λ (filter : JsonFilter). beside (found_in left) name filter) same
    ∙ ap (λ (find : List ℕ → Option JsonFilter). beside find name wanted) alike in (
      read.0,
      subst (λ (text : List ℕ). IsValueOf text read.0) c.deref.ensures.value read.1,
      subst (λ find. AreFound IsFilter find read.0) is read.2,
    )
