use Rattle.seccomptool.proofs.Layers.{front_and_last}
use Rattle.seccomptool.proofs.perform.parted.Goals as goal

pub returns-in-len1-up : goal.returns-in-len1-up
returns-in-len1-up c =
    let split = front_and_last c.args.inputs.now c.last-item.result c.in-len1-up.len_at_least c.last-item.is in
    rw c.in-Some.is (c.last-item.result, split, c.deref.ensures.value)
