use Rattle.seccompiler.proofs.ByName.{IsMaking}
use Rattle.seccompiler.proofs.json.filter_map.FilterMaps.{IsRead}
use Rattle.seccompiler.proofs.json.filter_map.lent_filters.Given as goal

abbrev pub invariant-loop-key : goal.invariant-loop-key
invariant-loop-key l = IsMaking IsRead l.initial.key-iterator l.key-iterator l.found
