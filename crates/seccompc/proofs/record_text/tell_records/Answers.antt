use Rattle.std.proofs.Common.{◌<◌, length, refl, arith}
use Rattle.std.proofs.lemmas.Result.{err_from_is_err_and}
use Rattle.seccompc.specs.Lines.{AreLines}
use Rattle.seccompc.proofs.Records.{lines_sent, unread}
use Rattle.seccompc.proofs.record_text.tell_records.Goals as goal

pub returns-in_err-bytes-clause-told : goal.returns-in_err-bytes-clause-told
returns-in_err-bytes-clause-told g c =
    let error = err_from_is_err_and c.from_residual.result c.from_residual.ensures.1 in
    let out = g.W.Write.contents c.args.out.now in
    rw (error.1, error.2) (unread (AreLines c.args.program.now) (g.R.Read.remaining c.args.records)
    c.in_err-bytes.field-0.0 out out
    c.in_err-bytes.ensures.cause)

pub returns-in-0-clause-told : goal.returns-in-0-clause-told
returns-in-0-clause-told g c =
    let items = c.in_ok-bytes.bytes.items in
    let contents = g.W.Write.contents in
    let written = lines_sent (AreLines c.args.program.now) items c.as_slice.result.now c.as_chunks.result.1.now _
    c.as_slice-2.result.now
    c.as_chunks.result.0.now 0 (contents c.args.out.now) (contents c.send.new.out) c.as_slice.ensures.value c.as_chunks.ensures.front
    c.as_chunks.ensures.back c.in-0.is c.in_ok-text.ensures c.as_slice-2.ensures.value c.in_ok-send.ensures.sent in
    (items, c.in_ok-bytes.ensures.bytes, written)

pub returns-clause-told : goal.returns-clause-told
returns-clause-told g c =
    let items = c.in_ok-bytes.bytes.items in
    let contents = g.W.Write.contents in
    let rest = length c.as_chunks.result.1.now in
    let written = lines_sent (AreLines c.args.program.now) items c.as_slice.result.now c.as_chunks.result.1.now _
    c.as_slice-2.result.now
    c.as_chunks.result.0.now rest (contents c.args.out.now) (contents c.send.new.out) c.as_slice.ensures.value c.as_chunks.ensures.front
    c.as_chunks.ensures.back refl c.in_ok-text.ensures c.as_slice-2.ensures.value c.in_ok-send.ensures.sent in
    let some : 0 < rest = let d = c.in_default in omega arith in
    (items, c.in_ok-bytes.ensures.bytes, (some, written))
