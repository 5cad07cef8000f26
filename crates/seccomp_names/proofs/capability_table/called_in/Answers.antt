use Rattle.std.proofs.Common.{All, Bor, List, ℕ, refl, sym, subst, ◌∙◌}
use Rattle.std.proofs.lemmas.Bool.{true≢false}
use Rattle.std.proofs.lemmas.List.{take_all}
use Rattle.std.proofs.lemmas.List.Elements.{All-map, All-more}
use Rattle.seccomp_names.specs.Capabilities.{IsCalled}
use Rattle.seccomp_names.proofs.Mapped.{contains_at}
use Rattle.seccomp_names.proofs.capability_table.called_in.Goals as goal

pub returns-then-is_called-clause-some : goal.returns-then-is_called-clause-some
returns-then-is_called-clause-some c =
    let there = contains_at (λ (own : Bor (List ℕ)). own.now) c.args.names.now c.loop-own.own-index _ c.loop-own-test.true in
    (there, c.if-is_called.ensures.0 refl)

pub loop-own-preserved : goal.loop-own-preserved
loop-own-preserved c = All-more (λ (own : Bor (List ℕ)). IsCalled own.now c.args.name.now → ⊥) c.args.names.now c.loop-own.own-index _
    c.loop-own-test.true c.loop-own.invariant (λ is. true≢false (sym (c.is_called.ensures.1 is) ∙ c.if-is_called.false))

pub returns-clause-none : goal.returns-clause-none
returns-clause-none c = All-map (λ own. IsCalled own c.args.name.now → ⊥) (λ (own : Bor (List ℕ)). own.now) c.args.names.now
    (subst (All (λ (own : Bor (List ℕ)). IsCalled own.now c.args.name.now → ⊥))
    (take_all c.loop-own.own-index c.args.names.now c.loop-own-test.false) c.loop-own.invariant)
