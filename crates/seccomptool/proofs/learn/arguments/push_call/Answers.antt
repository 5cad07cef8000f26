use Rattle.seccomptool.proofs.Common.{◌<◌, subst, sym}
use Rattle.seccomptool.specs.Learn.{IsWithArgument, indices}
use Rattle.seccomptool.proofs.Wanted.{index_at, turn_more}
use Rattle.seccomptool.proofs.learn.arguments.push_call.Goals as goal

pub loop-index-preserved : goal.loop-index-preserved
loop-index-preserved c =
    let observed = c.args.observed.now in
    let number = c.in-Some.number in
    let asked = c.args.call.now.indices in
    let index = c.loop-index.index in
    let before = c.loop-index.wanted.items in
    let after = c.push_argument.new.wanted.items in
    let within : index < 6 = c.loop-index-test.true in
    turn_more (IsWithArgument observed number asked) indices index 0 c.args.wanted.now.items before after within c.loop-index.invariant
    (subst (λ own. IsWithArgument observed number asked own before after) (sym (index_at index within)) c.in_ok-push_argument.ensures)
