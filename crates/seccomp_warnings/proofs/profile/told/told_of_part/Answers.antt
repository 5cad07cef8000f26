use Rattle.std.proofs.Common.{Contains, List, get_or, subst}
use Rattle.std.proofs.lemmas.List.Elements.{Contains-get_or}
use Rattle.seccomp_warnings.specs.declared.warning.Warning.{Warning}
use Rattle.seccomp_warnings.proofs.Said.{told_more}
use Rattle.seccomp_warnings.proofs.profile.told.told_of_part.Goals.{then-not-is_left_out+in_ok-push_told, else-not-is_left_out}
use Rattle.seccomp_warnings.proofs.profile.told.told_of_part.Goals as goal

pub loop-warning-preserved : goal.loop-warning-preserved
loop-warning-preserved c =
    let l = c.loop-warning in
    let items : List Warning = c.as_slice-warning-items.result.now in
    let own : Warning = get_or items l.warning-index _ in
    elim c.if-not-is_left_out.branch [
      | then-not-is_left_out+in_ok-push_told w ↦ rw w.told-is
          (told_more c.args.allowed.now c.args.part.now own l.told.items _ (record {
            own = c.in_ok-warned.warned;
            are = c.in_ok-warned.ensures;
            among = subst (λ (ws : List Warning). Contains ws own) c.as_slice-warning-items.ensures.value
                (Contains-get_or items l.warning-index _ c.loop-warning-test.true);
          }) l.invariant w.in_ok-push_told.ensures)
      | else-not-is_left_out w ↦ rw w.told-is l.invariant
    ]
