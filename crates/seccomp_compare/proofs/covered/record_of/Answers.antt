use Rattle.std.proofs.Common.{◌≡◌, ◌<◌, Some, refl, sym, ap, ◌∙◌, subst, arith, lit<, ⊎_elim}
use Rattle.std.specs.Prelude.{bit_and, slice_get}
use Rattle.std.proofs.lemmas.Bool.{cases_eq}
use Rattle.std.proofs.lemmas.List.Elements.{All-replicate}
use Rattle.std.proofs.lemmas.Option.{slice_get_within, get_or_from_slice_get}
use Rattle.seccompiler.specs.Machine.{argument_at}
use Rattle.seccomp_compare.specs.declared.known.Known.{Known}
use Rattle.seccomp_compare.proofs.covered.record_of.Goals as goal

pub write_word-requires-clause-record_was : goal.write_word-requires-clause-record_was
write_word-requires-clause-record_was c = record { long = refl; bytes = All-replicate (λ b. b < 256) 64 0 (lit< tt) }

pub loop-index-init : goal.loop-index-init
loop-index-init c = record {
  is = c.write_word-2.ensures.record_is;
  arch = c.write_word-2.ensures.here ∙ c.get_audit_value.ensures;
  number = c.write_word-2.ensures.others 0 (λ e. omega arith) ∙ c.write_word.ensures.here;
  known = λ i before. absurd (omega (arith, before));
}

pub loop-index-preserved : goal.loop-index-preserved
loop-index-preserved c =
    let part = c.args.part.now in
    let blank : Known = record { mask = 0; value = 0 } in
    let before = c.loop-index.invariant in
    record {
      is = c.write_argument.ensures.record_is;
      arch = c.write_argument.ensures.arch ∙ before.arch;
      number = c.write_argument.ensures.number ∙ before.number;
      known = λ i within k found.
          ⊎_elim
          (λ same.
          let here : slice_get part c.loop-index.index ≡ Some k = subst (λ n. slice_get part n ≡ Some k) same found in
          subst (λ n. argument_at c.write_argument.new.call n ≡ k.value) (sym same)
          (c.write_argument.ensures.here ∙ ap (λ (t : Known). t.value) (get_or_from_slice_get part c.loop-index.index k blank here)))
          (λ other.
          let earlier : i < c.loop-index.index = omega (arith, within, other) in
          c.write_argument.ensures.others i other ∙ before.known i earlier k found)
          (cases_eq i c.loop-index.index);
    }

pub returns-clause-known : goal.returns-clause-known
returns-clause-known c = record {
  each = λ i k found.
      let within = slice_get_within c.args.part.now i k found in
      let before : i < c.loop-index.index = omega (arith, within, c.told-part, c.loop-index-test.false) in
      ap (λ n. bit_and n k.mask) (c.loop-index.invariant.known i before k found) ∙ c.requires.each i k found;
}
