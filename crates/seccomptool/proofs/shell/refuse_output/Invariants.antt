use Rattle.seccomptool.proofs.Common.{Named, false, map, take}
use Rattle.seccomptool.specs.Outside.{compared}
use Rattle.seccomptool.proofs.shell.refuse_output.Given as goal

abbrev pub invariant-loop-file : goal.invariant-loop-file
invariant-loop-file g l =
    g.O.Outside.did l.fn.out l.out (map (λ (file : Named). compared file.path.now l.written false) (take l.file-index l.files))
