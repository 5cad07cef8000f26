use Rattle.seccomptool.proofs.words.Parts.{named_more}
use Rattle.seccomptool.proofs.words.files.all_named_in.Goals as goal

pub loop-text-preserved : goal.loop-text-preserved
loop-text-preserved g c =
    named_more (g.O.Outside.there c.args.out.now) _ c.loop-text.text-index _ c.loop-text.all.items c.push.new.self.items _
    c.loop-text-test.true c.loop-text.invariant c.named_in.ensures c.in_ok-push.ensures.items
