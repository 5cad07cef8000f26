use Rattle.std.proofs.Common.{◌≡◌, ◌*◌, ◌<◌, Some, refl, sym, ap, ◌∙◌, subst, arith, lit<, ⊎_elim}
use Rattle.std.specs.Prelude.{slice_get, bit_or}
use Rattle.std.proofs.lemmas.Bool.{cases_eq}
use Rattle.std.proofs.lemmas.List.Elements.{All-replicate}
use Rattle.std.proofs.lemmas.Option.{slice_get_within, get_or_from_slice_get}
use Rattle.seccompiler.specs.Machine.{word_at}
use Rattle.seccomp_compare.specs.declared.values.Values.{Values}
use Rattle.seccomp_compare.specs.WordSets.{HasValue}
use Rattle.seccomp_compare.proofs.sets.member.Goals as goal

pub loop-word-init : goal.loop-word-init
loop-word-init c = record {
  record_is = record { long = refl; bytes = All-replicate (λ b. b < 256) 64 0 (lit< tt) };
  words = λ w before. absurd (omega (arith, before));
}

pub loop-word-preserved : goal.loop-word-preserved
loop-word-preserved c =
    let part = c.args.part.now in
    let blank : Values = record { known = 0; value = 0; mask = 0; least = 0; most = 0 } in
    record {
      record_is = c.write_word.ensures.record_is;
      words = λ w before s found.
          ⊎_elim
          (λ same.
          let here : slice_get part c.loop-word.word ≡ Some s = subst (λ n. slice_get part n ≡ Some s) same found in
          ap (λ n. word_at c.write_word.new.call (4 * n)) same ∙ c.write_word.ensures.here
          ∙ ap (λ (t : Values). bit_or t.least t.value) (get_or_from_slice_get part c.loop-word.word s blank here))
          (λ other.
          let earlier : w < c.loop-word.word = omega (arith, before, other) in
          c.write_word.ensures.others w other ∙ c.loop-word.invariant.words w earlier s found)
          (cases_eq w c.loop-word.word);
    }

pub returns-clause-within : goal.returns-clause-within
returns-clause-within c = record {
  each = λ w s found.
      let within = slice_get_within c.args.part.now w s found in
      let before : w < c.loop-word.word = omega (arith, within, c.told-part, c.loop-word-test.false) in
      subst (HasValue s) (sym (c.loop-word.invariant.words w before s found))
      (c.requires.tight.each w s found (c.requires.some.each w s found));
}
