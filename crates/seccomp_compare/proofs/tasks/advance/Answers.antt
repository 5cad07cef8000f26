use Rattle.std.proofs.Common.{subst}
use Rattle.std.specs.Prelude.{IsTrue}
use Rattle.std.proofs.lemmas.Bool.{false≢true}
use Rattle.std.proofs.lemmas.Option.{slice_get-get_or}
use Rattle.seccomp_compare.specs.CompareTasks.{AreRelated, AreParts, ShowsUnrelated}
use Rattle.seccomp_compare.proofs.RecordSets.{related_at, unrelated_at}
use Rattle.seccomp_compare.proofs.tasks.advance.Goals as goal

pub returns-then-p-p_at-ne-RETURN : goal.returns-then-p-p_at-ne-RETURN
returns-then-p-p_at-ne-RETURN c =
    let low = c.parts_of.result.0 in
    let high = c.parts_of.result.1 in
    subst (λ part. AreParts c.args.p.now c.args.q.now part low high) c.followed-stand.ensures.same
    (c.parts_of.ensures c.args.p.now c.args.q.now c.followed-stand.ensures.task)

pub returns-then-q-q_at-ne-RETURN : goal.returns-then-q-q_at-ne-RETURN
returns-then-q-q_at-ne-RETURN c =
    let low = c.parts_of-then-q-q_at-ne-RETURN.result.0 in
    let high = c.parts_of-then-q-q_at-ne-RETURN.result.1 in
    subst (λ part. AreParts c.args.p.now c.args.q.now part low high) c.followed-stand.ensures.same
    (c.parts_of-then-q-q_at-ne-RETURN.ensures c.args.p.now c.args.q.now c.followed-stand.ensures.task)

pub returns-then-is_related : goal.returns-then-is_related
returns-then-is_related c =
    let stand = c.followed-stand.ensures.task in
    subst (λ part. AreRelated c.args.relation c.args.p.now c.args.q.now part) c.followed-stand.ensures.same record {
      each = λ r rec inside.
          related_at c.args.relation c.args.p.now c.args.q.now r _ _ _ _
          (stand.p_stands.reached r rec inside)
          (stand.q_stands.reached r rec inside)
          (slice_get-get_or c.args.p.now _ _ stand.p_stands.within)
          (slice_get-get_or c.args.q.now _ _ stand.q_stands.within)
          c.if-p-p_at-ne-RETURN.false
          c.if-q-q_at-ne-RETURN.false
          (c.is_related.ensures.0 c.if-is_related.true);
    }

pub returns : goal.returns
returns c =
    let stand = c.followed-stand.ensures.task in
    let r = c.member.result in
    let rec = c.member.ensures.record_is in
    let inside = c.member.ensures.within in
    subst (λ part. ShowsUnrelated c.args.relation c.args.p.now c.args.q.now part r) c.followed-stand.ensures.same record {
      record_is = rec;
      within = inside;
      unrelated =
          unrelated_at c.args.relation c.args.p.now c.args.q.now r _ _ _ _
          (stand.p_stands.reached r rec inside)
          (stand.q_stands.reached r rec inside)
          (slice_get-get_or c.args.p.now _ _ stand.p_stands.within)
          (slice_get-get_or c.args.q.now _ _ stand.q_stands.within)
          c.if-p-p_at-ne-RETURN.false
          c.if-q-q_at-ne-RETURN.false
          (λ related. false≢true (subst IsTrue c.if-is_related.false (c.is_related.ensures.1 related)));
    }
