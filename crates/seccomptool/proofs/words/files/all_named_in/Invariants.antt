use Rattle.seccomptool.proofs.Common.{AllZip, map, take}
use Rattle.seccomptool.specs.Files.{IsNamedBy}
use Rattle.seccomptool.proofs.words.files.all_named_in.Given as goal

-- each of those so far is named by its text
abbrev pub invariant-loop-text : goal.invariant-loop-text
invariant-loop-text g l =
    AllZip (IsNamedBy (g.O.Outside.there l.out)) (map (λ text. text.now) (take l.text-index l.text-items)) l.all.items
