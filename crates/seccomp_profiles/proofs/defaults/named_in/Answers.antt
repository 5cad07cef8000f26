use Rattle.std.proofs.Common.{◌≡◌, ◌<◌, ◌↔◌, ℕ, IsTrue, false, nat_lt, ap, sym, subst, ◌∙◌, arith, inl, inr}
use Rattle.std.proofs.lemmas.Bool.{true≢false}
use Rattle.std.proofs.lemmas.Bool.Decides.{nat_tests}
use Rattle.seccomp_profiles.specs.declared.types.Abi.{Abi}
use Rattle.seccomp_profiles.specs.Abis.{end_for}
use Rattle.seccomp_profiles.specs.Decision.{IsAbove, IsNamed, lets}
use Rattle.seccomp_profiles.specs.declared.types.Runtime.TheVariants.{Runc}
use Rattle.seccomp_profiles.specs.Defaults.{IsGreatest}
use Rattle.seccomp_profiles.specs.Types.{Container, Profile}
use Rattle.seccomp_profiles.proofs.defaults.named_in.Goals as goal

module _ (abi : Abi) (container : Container) (p : Profile) (g : ℕ)
    (greatest : IsGreatest (end_for abi) (IsNamed abi container p.entries) g) where
  -- Where none but 0 is named, no number is above all.
  zero_only : (n : ℕ) → g ≡ 0 → IsAbove abi container p n → ⊥
  zero_only n zero is = let most = greatest.most is.some.0 is.some.2 in let more = is.some.1 in omega arith

  -- Else the numbers above the greatest are.
  above_is : (n : ℕ) → container.runtime ≡ Runc → lets p.default ≡ false → (g ≡ 0 → ⊥)
      → IsTrue (nat_lt g n) ↔ IsAbove abi container p n
  above_is n runc denies some = (
    λ yes. record {
      runc = runc;
      denies = denies;
      some = (g, omega arith, named);
      above = λ m has. let most = greatest.most m has in let less : g < n = grind (arith, nat_tests) in omega arith;
    },
    λ is. let less = is.above g named in grind (arith, nat_tests),
  )
    where
      named : IsNamed abi container p.entries g
      named = elim greatest.own [ inl zero ↦ absurd (some zero) | inr has ↦ has ]

pub returns-then-greatest-eq0-clause-above : goal.returns-then-greatest-eq0-clause-above
returns-then-greatest-eq0-clause-above c = λ n. (
  λ no. absurd (true≢false (sym no)),
  λ is. absurd (zero_only c.args.abi c.args.container.now c.args.profile.now c.greatest_in-greatest.result
      (subst (λ es. IsGreatest (end_for c.args.abi) (IsNamed c.args.abi c.args.container.now es) c.greatest_in-greatest.result)
      (c.as_slice.ensures.value ∙ ap (λ (p : Profile). p.entries) c.profile.view_is) c.greatest_in-greatest.ensures)
      n c.if-greatest-eq0.true is),
)

pub returns-clause-above : goal.returns-clause-above
returns-clause-above c = λ n. above_is c.args.abi c.args.container.now c.args.profile.now c.greatest_in-greatest.result
    (subst (λ es. IsGreatest (end_for c.args.abi) (IsNamed c.args.abi c.args.container.now es) c.greatest_in-greatest.result)
    (c.as_slice.ensures.value ∙ ap (λ (p : Profile). p.entries) c.profile.view_is) c.greatest_in-greatest.ensures)
    n (sym (ap (λ (k : Container). k.runtime) c.container.view_is) ∙ c.in-Runc.is)
    (sym (ap (λ (p : Profile). lets p.default) c.profile.view_is) ∙ sym c.lets.ensures ∙ c.if-lets.false) c.if-greatest-eq0.false
