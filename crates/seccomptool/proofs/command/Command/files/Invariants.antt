use Rattle.seccomptool.proofs.Common.{◌≡◌, map, take}
use Rattle.seccomptool.specs.Files.{whole}
use Rattle.seccomptool.proofs.command.Command.files.Given as goal

abbrev pub invariant-loop-path : goal.invariant-loop-path
invariant-loop-path l = l.files.items ≡ map whole (take l.path-index l.path-items)
