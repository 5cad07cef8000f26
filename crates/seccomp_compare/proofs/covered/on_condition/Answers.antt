use Rattle.std.proofs.Common.{[], ◌∷◌, List}
use Rattle.std.proofs.lemmas.List.Elements.{All-contains, All-nil}
use Rattle.seccompiler.specs.Policy.{Condition, Holds, Rule}
use Rattle.seccomp_compare.specs.Cover.{OnRule}
use Rattle.seccomp_compare.specs.declared.covered.Seen.{Seen}
use Rattle.seccomp_compare.specs.declared.covered.Seen.TheVariants.{Fails, Holds as holds, Open}
use Rattle.seccomp_compare.specs.declared.known.Known.{Known}
use Rattle.seccomp_compare.proofs.KnownBits.{all_one}
use Rattle.seccomp_compare.proofs.covered.on_condition.Goals as goal

-- what is seen everywhere is so where a rule holds
wherever : (part : List Known) (own rule : Rule) (seen : Seen) → OnRule part [] rule seen → OnRule part own rule seen
wherever part own rule holds is = λ r rec has _. is r rec has (All-nil (λ (d : Condition). Holds d r))
wherever part own rule Fails is = λ r rec has _. is r rec has (All-nil (λ (d : Condition). Holds d r))
wherever part own rule (Open i j) is = is

pub returns : goal.returns
returns c = λ r rec has met.
    let one = All-contains (λ (d : Condition). Holds d r) c.args.own.now c.args.condition.now met
    (c.stands_in.ensures.0 c.if-stands_in.true) in
    all_one (λ (d : Condition). Holds d r) c.args.condition.now one

pub returns-2 : goal.returns-2
returns-2 c = wherever c.args.part.now c.args.own.now (c.args.condition.now ∷ []) c.by_bits-seen.result c.by_bits-seen.ensures
