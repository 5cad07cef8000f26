use Rattle.seccomptool.proofs.Common.{rules, subst, sym}
use Rattle.seccomptool.specs.Commands.{IsJudged, accepted, rejected}
use Rattle.seccomptool.proofs.check.check_made.Goals as goal
use Rattle.seccomptool.proofs.check.check_made.Goals.{in-Ok, in-Err}

pub returns-clause-made : goal.returns-clause-made
returns-clause-made c =
    let IsJudgedAs = IsJudged c.args.asked.now c.in_ok-subject.subject c.args.given.now in
    let judged : IsJudgedAs c.match-accepted.verdict = elim c.match-accepted.branch [
      | in-Ok w ↦ rw w.verdict-is (accepted w.in-Ok.ensures.accepted)
      | in-Err w ↦ rejected w.in-Err.error w.in-Err.ensures.rejected (search rules) w.verdict-is
    ] in
    ((c.in_ok-subject.subject, c.in_ok-subject.ensures, subst IsJudgedAs (sym c.noting.ensures.verdict) judged), c.noting.ensures.whole)
