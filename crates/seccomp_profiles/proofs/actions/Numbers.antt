-- For the functions of `actions`: one number stands beside an action.
use Rattle.std.proofs.Common.{◌≡◌, ℕ, Bool, false, List, [], ◌∷◌, Option, Some, None, length, sym, subst, ap, ◌∙◌}
use Rattle.std.specs.Prelude.{◌==◌}
use Rattle.std.specs.Map.{lookup}
use Rattle.std.specs.Str.{bytes_eq}
use Rattle.serde_json.specs.Data.{Data, null, number, string, unsigned}
use Rattle.serde_json.specs.Find.{get}
use Rattle.seccomp_entries.specs.declared.entry.Action.{Action}
use Rattle.seccomp_profiles.specs.Actions.{by_digits, by_name, either, IsActionUnder, IsBeside, IsNamedOr, IsNamedText}
use Rattle.seccomp_profiles.specs.Actions.{IsNumberOr, NamesError}
use Rattle.seccomp_names.specs.Errnos.{error_names}
use Rattle.seccomp_profiles.specs.Shape.{IsAction}
use Rattle.seccomp_profiles.specs.Version.{IsNumberText}

-- What is neither a name nor a number gives no errno.
pub none_named : (text : List ℕ) (o : Option ℕ) → o ≡ lookup (bytes_eq text) error_names → ((n : ℕ) → o ≡ Some n → ⊥)
    → ((n : ℕ) → IsNumberText text n → ⊥) → (n : ℕ) → NamesError text n → ⊥
none_named text o same unknown none n (by_name found) = unknown n (same ∙ found)
none_named text o same unknown none n (by_digits absent digits small) = none n digits

error_only : (text : List ℕ) (m n : ℕ) → NamesError text m → NamesError text n → m ≡ n
error_only text m n (by_name one) (by_name two) = let same : Some m ≡ Some n = sym one ∙ two in cc
error_only text m n (by_name one) (by_digits none two small) = absurd cc
error_only text m n (by_digits none one small) (by_name two) = absurd cc
error_only text m n (by_digits none one small) (by_digits none_too two small_too) = one.value ∙ sym two.value

named_only : (o : Option Data) (m n : Option ℕ) → IsNamedOr o m → IsNamedOr o n → m ≡ n
named_only None m n one two = one ∙ sym two
named_only (Some null) m n one two = one ∙ sym two
named_only (Some (string [])) m n one two = one ∙ sym two
named_only (Some (string (c ∷ text))) (Some m) (Some n) one two = ap Some (error_only (c ∷ text) m n one two)
named_only (Some (string (c ∷ text))) (Some m) None one two = absurd two
named_only (Some (string (c ∷ text))) None n one two = absurd one
named_only (Some d) m n one two = absurd one

number_only : (o : Option Data) (m n : Option ℕ) → IsNumberOr o m → IsNumberOr o n → m ≡ n
number_only None m n one two = one ∙ sym two
number_only (Some null) m n one two = one ∙ sym two
number_only (Some d) (Some m) (Some n) one two = let same : number (unsigned m) ≡ number (unsigned n) = sym one.held ∙ two.held in cc
number_only (Some d) (Some m) None one two = absurd two
number_only (Some d) None n one two = absurd one

beside_only : (d : Data) (key name : List ℕ) (o p : Option ℕ) → IsBeside d key name o → IsBeside d key name p → o ≡ p
beside_only d key name o p one two = one.is
    ∙ ap (λ n. either n one.own) (named_only (get name d) one.named two.named one.is_named two.is_named)
    ∙ ap (λ n. either two.named n) (number_only (get key d) one.own two.own one.is_own two.is_own) ∙ sym two.is

-- No action stands there, where what stands there with what is beside it is none.
pub none_under : (d : Data) (action key name : List ℕ) (o : Option ℕ) (v : Data) → IsBeside d key name o → get action d ≡ Some v
    → ((a : Action) → IsAction v o a → ⊥) → (a : Action) → IsActionUnder d action key name a → ⊥
none_under d action key name o v beside there none a is =
    let same = beside_only d key name is.beside o is.is_beside beside in
    let value : is.is.0 ≡ v = let e = sym is.is.1 ∙ there in cc in
    none a (subst (λ o. IsAction v o a) same (subst (λ v. IsAction v is.beside a) value is.is.2))

-- A text that isn't empty and gives no errno may not stand there.
pub none_of_text : (text : List ℕ) (b : Bool) → b ≡ (length text == 0) → b ≡ false → ((n : ℕ) → NamesError text n → ⊥)
    → (o : Option ℕ) → IsNamedText text o → ⊥
none_of_text [] b is some none o names = absurd cc
none_of_text (c ∷ text) b is some none (Some n) names = none n names
none_of_text (c ∷ text) b is some none None names = names
