use Rattle.std.proofs.Common.{◌≡◌, ◌+◌, [], ◌∷◌, ◌++◌, take, length, sym, ap, ◌∙◌, arith}
use Rattle.std.proofs.Math.Seq.{take-length}
use Rattle.std.proofs.lemmas.List.{map-append, take_more}
use Rattle.std.proofs.lemmas.List.Elements.{All-push}
use Rattle.seccompiler.specs.Machine.{IsInRange}
use Rattle.seccomp_answers.proofs.program.instructions.Goals as goal
use Rattle.seccomp_answers.specs.Compiled.{instruction_bytes}

pub loop-piece-preserved : goal.loop-piece-preserved
loop-piece-preserved c =
    let before = c.loop-piece.program.items in
    let one = c.instruction.result in
    let pieces = c.args.pieces.now in
    let more : take (c.loop-piece.piece-index + 1) pieces ≡ take c.loop-piece.piece-index pieces ++ instruction_bytes one ∷ [] =
    take_more pieces c.loop-piece.piece-index _ c.loop-piece-test.true
    ∙ ap (λ piece. take c.loop-piece.piece-index pieces ++ piece ∷ []) (sym c.instruction.ensures.bytes) in
    rw c.in_ok-push.ensures.items (
      map-append instruction_bytes before (one ∷ []) ∙ ap (λ bytes. bytes ++ instruction_bytes one ∷ []) c.loop-piece.invariant.0
          ∙ sym more,
      All-push IsInRange before one c.loop-piece.invariant.1 c.instruction.ensures.range,
    )

pub returns-clause-bytes : goal.returns-clause-bytes
returns-clause-bytes c =
    let pieces = c.args.pieces.now in
    let all : c.loop-piece.piece-index ≡ length pieces = omega (arith, c.loop-piece-test.false, c.loop-piece.auto.piece-index-end) in
    c.loop-piece.invariant.0 ∙ ap (λ n. take n pieces) all ∙ take-length pieces

pub returns-clause-ranges : goal.returns-clause-ranges
returns-clause-ranges c = c.loop-piece.invariant.1
