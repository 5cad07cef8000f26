use Rattle.seccomptool.proofs.Common.{◌≡◌, map, take}
use Rattle.seccomptool.specs.Outside.{got_of, named_of}
use Rattle.seccomptool.proofs.shell.read_all.Given as goal

abbrev pub invariant-loop-file : goal.invariant-loop-file
invariant-loop-file g l = record {
  named : map named_of l.inputs.items ≡ take l.file-index l.files;
  read : g.O.Outside.did l.fn.out l.out (map got_of l.inputs.items);
}
