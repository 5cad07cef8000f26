-- For `lowered_profile`: a profile decides one thing.
use Rattle.std.proofs.Common.{◌≡◌, ◌↔◌, ℕ, Bool, true, false, IsTrue, List, ap, refl, sym, ◌∙◌, length, arith}
use Rattle.std.specs.Prelude.{if◌then◌else◌}
use Rattle.seccomp_entries.specs.declared.entry.Action.TheVariants.{Own}
use Rattle.seccompiler.specs.declared.backend.SeccompAction.TheVariants.{KillThread}
use Rattle.seccomp_entries.specs.declared.entry.Action.{Action}
use Rattle.seccomp_profiles.specs.declared.types.Abi.{Abi}
use Rattle.seccompiler.specs.Machine.{word_at}
use Rattle.seccomp_entries.specs.Entries.{value_of}
use Rattle.seccomp_profiles.specs.Abis.{is_listed}
use Rattle.seccomp_profiles.specs.Decision.{by_default, by_entry, default_of, IsByEntryOf, IsDefault}
use Rattle.seccomp_profiles.specs.Decision.{IsDecisionOf, MatchesOn, NoneOf, rank}
use Rattle.seccomp_profiles.specs.ProfileDecisions.{IsWordOf, other, own}
use Rattle.seccomp_profiles.specs.Types.{Container, Entry, Profile}
use Rattle.seccomp_profiles.proofs.Least.{least_only}

-- What a test decides has one answer.
one_answer : {A : Type 0} (a b : Bool) → (IsTrue a ↔ A) → (IsTrue b ↔ A) → a ≡ b
one_answer true true is is_too = refl
one_answer true false is is_too = sym (is_too.1 (is.0 refl))
one_answer false true is is_too = is.1 (is_too.0 refl)
one_answer false false is is_too = refl

module _ (abi : Abi) (container : Container) (p : Profile) (entries : List Entry) (r : List ℕ) where
  default_only : (n : ℕ) (a b : Action) → IsDefault abi container p n a → IsDefault abi container p n b → b ≡ a
  default_only n a b one two =
      two.is ∙ ap (λ above. if is_listed abi p then default_of abi p.default above n else Own KillThread)
      (one_answer two.above one.above two.is_above one.is_above) ∙ sym one.is

  not_none : (a : Action) (k : ℕ) → IsByEntryOf abi container p.default entries r a k
      → NoneOf (MatchesOn abi container p.default r) entries (length entries) → ⊥
  not_none a k is none = none k is.entry is.first.within is.first.there is.first.holds

  decision_only : (a b : Action) → IsDecisionOf abi container p entries r a → IsDecisionOf abi container p entries r b → b ≡ a
  decision_only a b (by_entry j one) (by_entry k two) =
      let same = least_only rank (MatchesOn abi container p.default r) entries (length entries) k j two.entry one.entry (omega arith)
      two.first one.first in
      two.is ∙ ap (λ (e : Entry). e.action) same ∙ sym one.is
  decision_only a b (by_entry k one) (by_default none two) = absurd (not_none a k one none)
  decision_only a b (by_default none one) (by_entry k two) = absurd (not_none b k two none)
  decision_only a b (by_default none one) (by_default others two) = default_only (word_at r 0) a b one two

  -- So it has one word.
  pub word_only : (w v : ℕ) → IsWordOf abi container p entries r w → IsWordOf abi container p entries r v → v ≡ w
  word_only w v (own a here one is) (own b here_too two is_too) = is_too ∙ ap value_of (decision_only a b one two) ∙ sym is
  word_only w v (own a here one is) (other apart is_too) = absurd (apart here)
  word_only w v (other apart is) (own b here two is_too) = absurd (apart here)
  word_only w v (other apart is) (other apart_too is_too) = is_too ∙ sym is
