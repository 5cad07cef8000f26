use Rattle.std.proofs.Common.{◌≡◌, ℕ, ◌+◌, ◌*◌, arith, ◌∙◌}
use Rattle.seccomp_compare.proofs.KnownBits.{argument_kept, argument_made}
use Rattle.seccomp_compare.proofs.covered.write_argument.Goals as goal

pub returns-clause-here : goal.returns-clause-here
returns-clause-here c = argument_made c.write_word-2.new.call c.args.index c.args.value
    (c.write_word-2.ensures.others (4 + 2 * c.args.index) (omega arith) ∙ c.write_word.ensures.here) c.write_word-2.ensures.here

pub returns-clause-others : goal.returns-clause-others
returns-clause-others c = λ i other.
    let kept = λ (w : ℕ) (low : w ≡ 4 + 2 * c.args.index → ⊥) (high : w ≡ 5 + 2 * c.args.index → ⊥).
    c.write_word-2.ensures.others w high ∙ c.write_word.ensures.others w low in
    argument_kept c.args.call.now c.write_word-2.new.call i
    (kept (4 + 2 * i) (λ e. other (omega arith)) (λ e. omega arith))
    (kept (5 + 2 * i) (λ e. omega arith) (λ e. other (omega arith)))

pub returns-clause-number : goal.returns-clause-number
returns-clause-number c = c.write_word-2.ensures.others 0 (λ e. omega arith) ∙ c.write_word.ensures.others 0 (λ e. omega arith)

pub returns-clause-arch : goal.returns-clause-arch
returns-clause-arch c = c.write_word-2.ensures.others 1 (λ e. omega arith) ∙ c.write_word.ensures.others 1 (λ e. omega arith)
