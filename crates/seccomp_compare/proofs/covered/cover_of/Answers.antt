use Rattle.std.proofs.Common.{◌≡◌, List, [], ◌∷◌, ◌++◌, map, sym, ap, ◌∙◌, subst, refl, arith}
use Rattle.std.proofs.Math.Nat.{pow-le-pow_right}
use Rattle.std.proofs.lemmas.Nat.{pow_pos}
use Rattle.std.proofs.lemmas.List.Elements.{All-nil}
use Rattle.seccompiler.specs.Policy.{Condition, Holds, Rule}
use Rattle.seccomp_compare.specs.declared.known.Known.{Known}
use Rattle.seccomp_compare.proofs.SetsLeft.{AreLeft, all_covered, left_done, left_first, left_split}
use Rattle.seccomp_compare.proofs.SetsLeft.{none_left, open_first, opened, part_kept}
use Rattle.seccomp_compare.proofs.SetsLeft.{part_long, some_weight, total, total_push, total_split}
use Rattle.seccomp_compare.proofs.covered.cover_of.Goals.{in-Done, in-Open+in_ok-push_halves-in-Open}
use Rattle.seccomp_compare.proofs.covered.cover_of.Goals as goal

pub loop-looked-init : goal.loop-looked-init
loop-looked-init c =
    let own = c.args.own.now in
    let others : List Rule = map (λ q. q.now) c.args.others.now in
    let part = c.in-Some.part in
    let items : c.push.new.self.items ≡ [] ++ part ∷ [] = c.in_ok-push.ensures.items
    ∙ ap (λ (ls : List (List Known)). ls ++ part ∷ []) c.new-left.ensures.items in
    let few = pow-le-pow_right {n = 2} (omega arith) (open_first own (own ∷ others) part c.in-Some.ensures.fixed) in
    let pos = pow_pos (opened (own ∷ others) part) in
    let all = ap (total (own ∷ others)) items ∙ total_push (own ∷ others) [] part in
    record {
      left = left_first c.args.arch c.args.number own others c.push.new.self.items part items c.in-Some.ensures.kept
          c.in-Some.ensures.fixed.long c.in-Some.ensures.some;
      room = omega (arith, all, few, pos);
    }

pub returns-in_default-pop : goal.returns-in_default-pop
returns-in_default-pop c =
    let others : List Rule = map (λ q. q.now) c.args.others.now in
    all_covered c.args.arch c.args.number c.args.own.now others c.loop-looked.left.items c.loop-looked.invariant.left
    (omega (arith, c.in_default-pop.ensures.cases.0, c.loop-looked.left.ok.0))

pub record_of-requires : goal.record_of-requires
record_of-requires c =
    let others : List Rule = map (λ q. q.now) c.args.others.now in
    part_kept c.args.arch c.args.number c.args.own.now others c.pop.new.self.items c.in-Some-pop.part
    (subst (AreLeft c.args.arch c.args.number c.args.own.now others) c.in-Some-pop.ensures.items c.loop-looked.invariant.left)

pub push_halves-requires-clause-kept : goal.push_halves-requires-clause-kept
push_halves-requires-clause-kept c =
    let others : List Rule = map (λ q. q.now) c.args.others.now in
    part_kept c.args.arch c.args.number c.args.own.now others c.pop.new.self.items c.in-Some-pop.part
    (subst (AreLeft c.args.arch c.args.number c.args.own.now others) c.in-Some-pop.ensures.items c.loop-looked.invariant.left)

pub returns-in-Escapes : goal.returns-in-Escapes
returns-in-Escapes c =
    let r = c.record_of.result in
    let is = c.record_of.ensures.is in
    let has = c.record_of.ensures.known in
    let holds = c.in-Escapes.ensures.0 r is has (All-nil (λ (d : Condition). Holds d r)) in (
      record { record_is = is; arch_is = c.record_of.ensures.arch; number_is = c.record_of.ensures.number; holds = holds },
      λ some. c.in-Escapes.ensures.1 r is has holds some,
    )

pub loop-looked-preserved : goal.loop-looked-preserved
loop-looked-preserved c =
    let own = c.args.own.now in
    let others : List Rule = map (λ q. q.now) c.args.others.now in
    let arch = c.args.arch in
    let number = c.args.number in
    let before = c.pop.new.self.items in
    let part = c.in-Some-pop.part in
    let room = c.loop-looked.invariant.room in
    let items : c.loop-looked.left.items ≡ before ++ part ∷ [] = c.in-Some-pop.ensures.items in
    let are = subst (AreLeft arch number own others) items c.loop-looked.invariant.left in
    let popped = ap (total (own ∷ others)) items ∙ total_push (own ∷ others) before part in
    let one = some_weight (own ∷ others) part in
    elim c.match-next_of.branch [
      | in-Done w ↦ (
          let now : c.match-next_of.left.items ≡ before = rw w.left-is refl in
          let rest = ap (total (own ∷ others)) now in
          record {
            left = subst (AreLeft arch number own others) (sym now) (left_done arch number own others before part are w.in-Done.ensures);
            room = omega (arith, room, popped, one, rest);
          })
      | in-Open+in_ok-push_halves-in-Open w ↦ (
          let new = w.push_halves.new.left.items in
          let now : c.match-next_of.left.items ≡ new = rw w.left-is refl in
          let adds = w.in_ok-push_halves-in-Open.ensures in
          let long = part_long arch number own others before part are in
          let fewer = total_split (own ∷ others) part w.in-Open.index w.in-Open.place before new w.in-Open.ensures long adds in
          let rest = ap (total (own ∷ others)) now in
          let whole = ap (total (own ∷ others)) items in
          record {
            left = subst (AreLeft arch number own others) (sym now)
                (left_split arch number own others before part are w.in-Open.index w.in-Open.place new adds);
            room = omega (arith, room, fewer, rest, whole);
          })
    ]

pub returns-then-is_empty : goal.returns-then-is_empty
returns-then-is_empty c =
    let others : List Rule = map (λ q. q.now) c.args.others.now in
    all_covered c.args.arch c.args.number c.args.own.now others c.loop-looked.left.items c.loop-looked.invariant.left
    (none_left c.loop-looked.left.items c.loop-looked.left.len c.is_empty.result c.loop-looked.left.ok.0 c.is_empty.ensures
    c.if-is_empty.true)
