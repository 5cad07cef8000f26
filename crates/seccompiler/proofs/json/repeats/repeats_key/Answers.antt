use Rattle.std.proofs.Common.{arith}
use Rattle.seccompiler.proofs.json.repeats.TextCuts.{same_count, counted_from_front, at_most_all}
use Rattle.seccompiler.proofs.json.repeats.repeats_key.Goals as goal

-- There are no more names than bytes `:`.
pub returns-then-left-eq0-clause-each_cut : goal.returns-then-left-eq0-clause-each_cut
returns-then-left-eq0-clause-each_cut c = λ count h. let few = at_most_all c.args.text.now count h in grind (arith, few)

pub returns-then-left-eq0-clause-cut : goal.returns-then-left-eq0-clause-cut
returns-then-left-eq0-clause-cut c = (_, counted_from_front c.args.text.now)

pub returns-then-left-eq0-clause-repeats : goal.returns-then-left-eq0-clause-repeats
returns-then-left-eq0-clause-repeats c = (λ t. absurd (cc), λ found. (returns-then-left-eq0-clause-each_cut c _ found.colons).1 found.more)

pub returns-clause-each_cut : goal.returns-clause-each_cut
returns-clause-each_cut c = λ count h.
    let same = same_count c.args.text.now _ _ c.colons.ensures h in
    let few = at_most_all c.args.text.now count h in grind (arith, same, few)

pub returns-clause-repeats : goal.returns-clause-repeats
returns-clause-repeats c =
    let counted = c.colons.ensures in (
      λ told. record { count = _; colons = counted; more = (returns-clause-each_cut c _ counted).0 told },
      λ found. (returns-clause-each_cut c _ found.colons).1 found.more,
    )
