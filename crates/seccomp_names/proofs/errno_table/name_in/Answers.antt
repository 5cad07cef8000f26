use Rattle.std.proofs.Common.{◌≡◌, All, Bor, List, ℕ, refl, subst}
use Rattle.std.proofs.lemmas.List.{take_all}
use Rattle.std.proofs.lemmas.List.Elements.{All-map, All-more}
use Rattle.seccomp_names.proofs.Mapped.{any_at}
use Rattle.seccomp_names.proofs.errno_table.name_in.Goals as goal

pub returns-then-error-number-clause-some : goal.returns-then-error-number-clause-some
returns-then-error-number-clause-some c = any_at (λ (row : Bor (List ℕ) × ℕ). (row.0.now, row.1)) _ c.args.errors.now
    c.loop-error.error-index _ c.loop-error-test.true (refl, c.if-error-number.true)

pub loop-error-preserved : goal.loop-error-preserved
loop-error-preserved c = All-more (λ (error : Bor (List ℕ) × ℕ). error.1 ≡ c.args.number → ⊥) c.args.errors.now
    c.loop-error.error-index _ c.loop-error-test.true c.loop-error.invariant c.if-error-number.false

pub returns-clause-none : goal.returns-clause-none
returns-clause-none c = All-map (λ (error : List ℕ × ℕ). error.1 ≡ c.args.number → ⊥) (λ (row : Bor (List ℕ) × ℕ). (row.0.now, row.1))
    c.args.errors.now (subst (All (λ (error : Bor (List ℕ) × ℕ). error.1 ≡ c.args.number → ⊥))
    (take_all c.loop-error.error-index c.args.errors.now c.loop-error-test.false) c.loop-error.invariant)
