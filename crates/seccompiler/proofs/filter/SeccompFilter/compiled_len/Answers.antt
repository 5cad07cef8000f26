use Rattle.std.proofs.Common.{rules, ◌≡◌, ◌≢◌, ℕ, ℤ, pos, ◌^◌, ◌-◌, ◌<◌, ◌≤◌, min, List, Vec, Global, All, map, refl, sym, ap, ◌∙◌}
use Rattle.std.proofs.Common.{subst, w64, arith}
use Rattle.std.proofs.lemmas.Int.{to_z-of_z, ints}
use Rattle.std.specs.Map.{keys_of}
use Rattle.seccompiler.specs.declared.backend.BackendError.TheVariants.{FilterTooLarge, InvalidSyscallNumber, OutOfMemory}
use Rattle.seccompiler.specs.Policy.{Rule, Filter, IsCallNumber, chains_of}
use Rattle.seccompiler.specs.Compiled.{numbers_of, IsLeastUnfit}
use Rattle.seccompiler.proofs.ChainNumbers.{numbers_are_keys}
use Rattle.seccompiler.proofs.filter.SeccompFilter.compiled_len.Goals as goal

-- the keys of the map are the filter's call numbers
keys_are : (entries : List (ℤ × Vec Rule Global)) (f g : Filter) → chains_of entries ≡ f.chains → f ≡ g
    → keys_of entries ≡ numbers_of g.chains
keys_are entries f g same is = sym (numbers_are_keys entries) ∙ ap (map (λ e. e.0)) same ∙ ap (λ (f : Filter). numbers_of f.chains) is

sizes : (n m : ℕ) → m ≡ min n (2 ^ 64 - 1) → (4096 < m → 4096 < n) × (m ≤ 4096 → n ≤ 4096)
sizes n m is = (λ more. omega (arith, is), λ few. omega (arith, is))

no_room : (n : ℕ) (z : ℤ) → (FilterTooLarge n ≢ OutOfMemory) × (InvalidSyscallNumber z ≢ OutOfMemory)
no_room n z = (λ same. cc, λ same. cc)

pub returns-in-Some-clause-refused : goal.returns-in-Some-clause-refused
returns-in-Some-clause-refused c = (
  (no_room 0 _).1,
  rw (to_z-of_z w64 c.in-Some.number (search (rules, ints)))
      (subst (λ numbers. IsLeastUnfit numbers c.in-Some.number) (keys_are c.self.inside.rules.entries _ _ refl c.self.view_is)
      c.in-Some.ensures.unfit),
)

pub returns-then-length-gt-BPF_MAX_LEN-clause-refused : goal.returns-then-length-gt-BPF_MAX_LEN-clause-refused
returns-then-length-gt-BPF_MAX_LEN-clause-refused c = (
  (no_room _ (pos 0)).0,
  record {
    numbers = subst (All IsCallNumber) (keys_are c.self.inside.rules.entries _ _ refl c.self.view_is) (c.in_default.ensures.fit.0 refl);
    large = (sizes _ _ c.program_len-length.ensures.length).0 c.if-length-gt-BPF_MAX_LEN.true;
    length = c.program_len-length.ensures.length;
  },
)

pub returns-clause-compilable : goal.returns-clause-compilable
returns-clause-compilable c = record {
  numbers = subst (All IsCallNumber) (keys_are c.self.inside.rules.entries _ _ refl c.self.view_is) (c.in_default.ensures.fit.0 refl);
  short = (sizes _ _ c.program_len-length.ensures.length).1 c.if-length-gt-BPF_MAX_LEN.false;
}
