use Rattle.std.proofs.Common.{◌≡◌, ◌++◌, [], ◌∷◌, List, sym, ap, ◌∙◌, subst, refl, arith}
use Rattle.seccomp_compare.specs.declared.tasks.Task.{Task}
use Rattle.seccomp_compare.proofs.RecordSets.{reaches_start}
use Rattle.seccomp_compare.proofs.TasksLeft.{AreLeft, left_first, left_done, left_split, tasks_pop}
use Rattle.seccomp_compare.proofs.tasks.compare_on.Goals.{in-Done, in-Splits+in_ok-push-in-Splits+in_ok-push-in-Splits-2}
use Rattle.seccomp_compare.proofs.tasks.compare_on.Goals as goal

pub loop-init : goal.loop-init
loop-init c =
    let p = c.args.p.now in
    let q = c.args.q.now in
    let part = c.args.part.now in
    let first : Task = record {
      part = part;
      p_at = record { place = 0; word = 0; mask = 0 };
      q_at = record { place = 0; word = 0; mask = 0 };
    } in
    let items : c.push.new.self.items ≡ [] ++ first ∷ [] = c.in_ok-push.ensures.items
    ∙ ap (λ (ts : List Task). ts ++ first ∷ []) c.new-tasks.ensures.items in
    let left = subst (λ ts. AreLeft c.args.relation p q part ts) (sym items) (left_first c.args.relation p q first record {
      p_stands = record { within = omega (arith, c.requires.p_checked.some); word = omega arith; reached = λ r _ _. reaches_start p r };
      q_stands = record { within = omega (arith, c.requires.q_checked.some); word = omega arith; reached = λ r _ _. reaches_start q r };
      tight = c.requires.tight;
    }) in
    left

pub advance-requires-clause-task : goal.advance-requires-clause-task
advance-requires-clause-task c =
    let left = subst (λ ts. AreLeft c.args.relation c.args.p.now c.args.q.now c.args.part.now ts) c.in-Some.ensures.items
    c.loop.invariant in
    (tasks_pop c.args.p.now c.args.q.now c.args.part.now c.pop.new.self.items c.in-Some.task left.0).1

pub returns-in-Shows : goal.returns-in-Shows
returns-in-Shows c =
    let left = subst (λ ts. AreLeft c.args.relation c.args.p.now c.args.q.now c.args.part.now ts) c.in-Some.ensures.items
    c.loop.invariant in
    let back = (tasks_pop c.args.p.now c.args.q.now c.args.part.now c.pop.new.self.items c.in-Some.task left.0).2 in
    let shows = c.in-Shows.ensures in
    record { record_is = shows.record_is; within = back _ shows.record_is shows.within; unrelated = shows.unrelated }

pub loop-preserved : goal.loop-preserved
loop-preserved c =
    let p = c.args.p.now in
    let q = c.args.q.now in
    let part = c.args.part.now in
    let before = c.pop.new.self.items in
    let task = c.in-Some.task in
    let left = subst (λ ts. AreLeft c.args.relation p q part ts) c.in-Some.ensures.items c.loop.invariant in
    elim c.match-advance.branch [
      | in-Done w ↦ (
          let now : c.match-advance.tasks.items ≡ before = rw w.tasks-is refl in
          let done = subst (λ ts. AreLeft c.args.relation p q part ts) (sym now)
          (left_done c.args.relation p q part before task left w.in-Done.ensures) in
          done)
      | in-Splits+in_ok-push-in-Splits+in_ok-push-in-Splits-2 w ↦ (
          let low = w.in-Splits.low in
          let high = w.in-Splits.high in
          let pushed : w.push-in-Splits-2.new.self.items ≡ before ++ high ∷ [] ++ low ∷ [] =
          w.in_ok-push-in-Splits-2.ensures.items ∙ ap (λ (ts : List Task). ts ++ low ∷ []) w.in_ok-push-in-Splits.ensures.items in
          let now : c.match-advance.tasks.items ≡ before ++ high ∷ [] ++ low ∷ [] = rw w.tasks-is pushed in
          let done = subst (λ ts. AreLeft c.args.relation p q part ts) (sym now)
          (left_split c.args.relation p q part before task low high left w.in-Splits.ensures) in
          done)
    ]

pub stop_on-requires-clause-task : goal.stop_on-requires-clause-task
stop_on-requires-clause-task c =
    let left = subst (λ ts. AreLeft c.args.relation c.args.p.now c.args.q.now c.args.part.now ts) c.in-Some-pop.ensures.items
    c.loop-task.invariant in
    (tasks_pop c.args.p.now c.args.q.now c.args.part.now c.pop-in-loop-task.new.self.items c.in-Some-pop.task left.0).1

pub returns-in-Some-stop_on : goal.returns-in-Some-stop_on
returns-in-Some-stop_on c =
    let left = subst (λ ts. AreLeft c.args.relation c.args.p.now c.args.q.now c.args.part.now ts) c.in-Some-pop.ensures.items
    c.loop-task.invariant in
    let back = (tasks_pop c.args.p.now c.args.q.now c.args.part.now c.pop-in-loop-task.new.self.items c.in-Some-pop.task left.0).2 in
    let stops = c.in-Some-stop_on.ensures.stops in
    record {
      record_is = stops.record_is;
      within = back _ stops.record_is stops.within;
      comes = stops.comes;
      other_comes = stops.other_comes;
    }

pub loop-task-preserved : goal.loop-task-preserved
loop-task-preserved c =
    let left = subst (λ ts. AreLeft c.args.relation c.args.p.now c.args.q.now c.args.part.now ts) c.in-Some-pop.ensures.items
    c.loop-task.invariant in
    left_done c.args.relation c.args.p.now c.args.q.now c.args.part.now c.pop-in-loop-task.new.self.items c.in-Some-pop.task left
    record { each = λ r _ inside. absurd (c.in_default-stop_on.ensures.empty refl r inside) }
