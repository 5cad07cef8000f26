use Rattle.std.proofs.Common.{sym, subst, arith}
use Rattle.seccompiler.specs.Machine.{word_at}
use Rattle.seccomp_compare.specs.Compare.{IsCallOf}
use Rattle.seccomp_compare.proofs.Words.{word_fits}
use Rattle.seccomp_compare.proofs.calls.Calls.records.Goals as goal

pub returns-clause-to : goal.returns-clause-to
returns-clause-to c = λ r known.
    let call = subst (λ calls. IsCallOf calls r) (sym c.self.view_is) known in
    let rec = call.record_is in
    c.narrowed.ensures.to r
    (c.narrowed-numbered.ensures.to r (c.whole.ensures.all r rec)
    ((c.between.ensures.words (word_at r 0) (word_fits r 0 rec)).1 (call.least, call.greatest)))
    ((c.between-2.ensures.words (word_at r 4) (word_fits r 4 rec)).1 (call.least_arch, call.greatest_arch))

pub returns-clause-back : goal.returns-clause-back
returns-clause-back c = λ r rec inside.
    let of_number = (c.between.ensures.words (word_at r 0) (word_fits r 0 rec)).0
    (c.narrowed.ensures.others r inside 0 _ (λ e. omega arith) c.narrowed-numbered.ensures.here) in
    let of_arch = (c.between-2.ensures.words (word_at r 4) (word_fits r 4 rec)).0 (inside.each 1 _ c.narrowed.ensures.here) in
    subst (λ calls. IsCallOf calls r) c.self.view_is record {
      record_is = rec;
      least_arch = of_arch.0;
      greatest_arch = of_arch.1;
      least = of_number.0;
      greatest = of_number.1;
    }
