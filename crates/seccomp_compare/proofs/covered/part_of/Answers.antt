use Rattle.std.proofs.Common.{◌≡◌, ℕ, ◌+◌, ◌<◌, List, [], ◌∷◌, ◌++◌, length, take, get_or, Some}
use Rattle.std.proofs.Common.{sym, ◌∙◌, subst, arith, ⊎_elim}
use Rattle.std.proofs.Math.ListN.{set}
use Rattle.std.specs.Prelude.{nat_eq, slice_get}
use Rattle.std.specs.Int.{bit_at}
use Rattle.std.proofs.lemmas.Bool.{eqb-true}
use Rattle.std.proofs.lemmas.List.{length-set}
use Rattle.std.proofs.lemmas.List.Elements.{All-pop}
use Rattle.std.proofs.lemmas.Option.{slice_get-get_or}
use Rattle.seccompiler.specs.Machine.{argument_at}
use Rattle.seccompiler.specs.Policy.{Condition, Holds, Rule}
use Rattle.seccomp_compare.specs.Cover.{KnowsFixed, KnowsMore, compared, compares, fixes, is_equality}
use Rattle.seccomp_compare.specs.declared.known.Known.{Known}
use Rattle.seccomp_compare.proofs.KnownBits.{and_both, argument_fits, any_more, kept_set, known_set, set_found, take_next}
use Rattle.seccomp_compare.proofs.covered.part_of.Goals as goal

-- one more condition
fixed_more : (front : Rule) (c : Condition) (part : List Known) (i : ℕ) (old more : Known) → KnowsFixed front part → i ≡ c.arg_index
    → slice_get part i ≡ Some old → KnowsMore old c more → KnowsFixed (front ++ c ∷ []) (set part i more)
fixed_more front c part i old more fixed index there knows = record {
  long = length-set part i more ∙ fixed.long;
  each = λ a j known found fix.
      let cases = any_more (fixes a j) front c fix in
      ⊎_elim
      (λ here.
      let at_old : slice_get part a ≡ Some old = subst (λ n. slice_get part n ≡ Some old) (sym here.0) there in
      subst (λ (k : Known). bit_at k.mask j ≡ 1) here.1
      (⊎_elim
      (λ before. knows.kept j (fixed.each a j old at_old before))
      (λ last.
      let both = and_both (is_equality c.operator) (compares a j c) last in
      let bits = and_both (nat_eq c.arg_index a) (nat_eq (bit_at (compared c) j) 1) both.1 in
      knows.fixed both.0 j (eqb-true _ _ bits.1))
      cases))
      (λ other.
      ⊎_elim
      (λ before. fixed.each a j known other.1 before)
      (λ last.
      let both = and_both (is_equality c.operator) (compares a j c) last in
      let bits = and_both (nat_eq c.arg_index a) (nat_eq (bit_at (compared c) j) 1) both.1 in
      absurd (other.0 (sym (eqb-true _ _ bits.0) ∙ sym index)))
      cases)
      (set_found part i more a known found);
}

pub loop-condition-preserved : goal.loop-condition-preserved
loop-condition-preserved c =
    let part = c.loop-condition.part in
    let i = c.from-index.result in
    let more = c.in_ok-part.field-0 in
    let own = c.args.own.now in
    let k = c.loop-condition.condition-index in
    let one = c.condition-item.result in
    let before = c.loop-condition.invariant in
    let d : Known = record { mask = 0; value = 0 } in
    let index : i ≡ one.arg_index = c.from-index.ensures ∙ c.arg_index.ensures.index in
    let few : i < length part = omega (arith, before.fixed.long, c.arg_index.ensures.within, c.from-index.ensures) in
    let there : slice_get part i ≡ Some (get_or part i d) = slice_get-get_or part i d few in
    let taken : take (k + 1) own ≡ take k own ++ one ∷ [] = take_next own k one c.loop-condition-test.true c.condition-item.is in
    record {
      kept = kept_set part i more before.kept c.in_ok-part.ensures.kept;
      known = λ r rec holds.
          let split = All-pop (λ e. Holds e r) (take (k + 1) own) (take k own) (Some one) taken holds in
          let was = before.known r rec split.0 in
          let fits = argument_fits r i rec (omega (arith, c.arg_index.ensures.within, c.from-index.ensures)) in
          known_set part i more r was (c.in_ok-part.ensures.some (argument_at r i) fits (was.each i (get_or part i d) there)
          (subst (λ n. Holds (record one { arg_index = n }) r) (sym index) split.1));
      fixed = subst (λ q. KnowsFixed q (set part i more)) (sym taken)
          (fixed_more (take k own) one part i (get_or part i d) more before.fixed index there c.in_ok-part.ensures.fixed);
    }
