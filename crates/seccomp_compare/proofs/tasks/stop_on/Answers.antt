use Rattle.std.proofs.Common.{subst}
use Rattle.seccomp_compare.specs.declared.Stop.{Stop}
use Rattle.seccomp_compare.specs.CompareTasks.{StopsWithin}
use Rattle.seccomp_compare.proofs.RecordSets.{comes_to}
use Rattle.seccomp_compare.proofs.tasks.stop_on.Goals as goal

pub returns-clause-stops : goal.returns-clause-stops
returns-clause-stops c =
    let p = c.args.p.now in
    let q = c.args.q.now in
    let stand = c.followed-stand.ensures.task in
    let r = c.member.result in
    let rec = c.member.ensures.record_is in
    let inside = c.member.ensures.within in
    let stop : Stop = record { call = r; place = c.followed-stand.result.p_at.place; other_place = c.followed-stand.result.q_at.place } in
    subst (λ part. StopsWithin p q part stop) c.followed-stand.ensures.same record {
      record_is = rec;
      within = inside;
      comes = comes_to p r c.followed-stand.result.p_at stand.p_stands.within (stand.p_stands.reached r rec inside);
      other_comes = comes_to q r c.followed-stand.result.q_at stand.q_stands.within (stand.q_stands.reached r rec inside);
    }
