use Rattle.std.proofs.Common.{◌-◌, ◌^◌, ◌∙◌, ap, refl, lit≤}
use Rattle.std.proofs.lemmas.Bool.{false≢true}
use Rattle.std.proofs.lemmas.Map.Iter.{iter_end}
use Rattle.std.specs.Map.Iter.{deref}
use Rattle.std.specs.Map.{values_of}
use Rattle.seccompiler.specs.Policy.{Filter}
use Rattle.seccompiler.proofs.ChainNumbers.{numbers_ascend, no_numbers_ascend}
use Rattle.seccompiler.proofs.CappedLengths.{capped_filter, empty_filter}
use Rattle.std.proofs.Common.{arith}
use Rattle.std.proofs.lemmas.Grind.{common_steps}
use Rattle.seccompiler.proofs.filter.SeccompFilter.program_len.Goals as goal

pub returns-then-is_empty : goal.returns-then-is_empty
returns-then-is_empty c = let f = c.args.self.now in
    let entries = c.self.inside.rules.entries in let chains = ap (λ (g : Filter). g.chains) c.self.view_is in
    let none = c.if-is_empty.ensures.0 refl in
    record { length = empty_filter (2 ^ 64 - 1) f entries (lit≤ tt) chains none; ordered = no_numbers_ascend f entries chains none }

pub returns : goal.returns
returns c = let f = c.args.self.now in
    let entries = c.self.inside.rules.entries in let chains = ap (λ (g : Filter). g.chains) c.self.view_is in
    let whole = iter_end deref (values_of entries) c.loop-chain.yielded _ _ _ _
    (c.into_iter-chain-iterator.ensures.into_iter_gives ∙ c.values-chain-items.ensures.rest)
    c.loop-chain.yielded_by c.in-None.is c.next.ensures.steps in
    record {
      length = capped_filter (2 ^ 64 - 1) f entries c.loop-chain.yielded c.loop-chain.length chains
          (λ none. false≢true (c.if-is_empty.ensures.1 none)) whole.0 c.loop-chain.invariant;
      ordered = numbers_ascend f entries chains c.values-chain-items.ensures.ordered;
    }

pub loop-chain-preserved : goal.loop-chain-preserved
loop-chain-preserved c = grind (arith, common_steps)
