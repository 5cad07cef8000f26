use Rattle.std.proofs.Common.{◌≢◌, slice_index, arith, lit<}
use Rattle.std.proofs.lemmas.Bool.Decides.{nat_tests}
use Rattle.seccompc.proofs.words.Numbers.{signed_read}
use Rattle.seccompc.proofs.words.read_signed.Goals as goal

pub returns : goal.returns
returns c =
    let differs : slice_index c.args.text.now 0 ≢ 43 =
    grind (arith, nat_tests, c.if-starts_with.ensures.byte (lit< tt) (lit< tt) (λ _ _ x. x)) in
    let h = signed_read c.args.text.now c.parse.result c.parse.ensures.value.0 differs in
    rw c.ok.ensures.value (record { read = h.read; unread = h.unread })
