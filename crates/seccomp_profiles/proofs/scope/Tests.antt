-- For `has_text` and `applies`: what tests of lists of texts say.
use Rattle.std.proofs.Common.{◌≡◌, ◌↔◌, ℕ, Option, List, [], ◌∷◌, Bool, true, false, not, ◌&&◌, ◌||◌, ◌⊎◌, refl, subst}
use Rattle.std.specs.Prelude.{All, Contains, IfSome, IsTrue}
use Rattle.std.specs.List.{list_all, list_any}
use Rattle.std.specs.Str.{bytes_eq}
use Rattle.std.specs.Bool.{Decides}
use Rattle.std.proofs.lemmas.Bool.Decides.{Decides-and, Decides-by_and, Decides-not, Decides-at}
use Rattle.std.proofs.lemmas.Cmp.{nat_list_eq_equiv}
use Rattle.std.proofs.lemmas.Map.Views.{Contains-from_any, list_any-from_Contains}
use Rattle.std.proofs.lemmas.Slice.Eq.{bytes_eq-Decides}
use Rattle.seccompiler.specs.declared.backend.TargetArch.{TargetArch}
use Rattle.seccomp_profiles.specs.declared.types.Kernel.{Kernel}
use Rattle.seccomp_profiles.specs.Decision.{go_name, Applies, IsAtLeast}
use Rattle.seccomp_profiles.specs.Types.{Container, Entry}

-- Whether a text is one of these.
pub text_decides : (texts : List (List ℕ)) (text : List ℕ) → Decides (list_any (bytes_eq text) texts) (Contains texts text)
text_decides texts text = (
  Contains-from_any {eq = bytes_eq} (λ x y. (bytes_eq-Decides x y).0) text texts,
  list_any-from_Contains {eq = bytes_eq} nat_list_eq_equiv text texts,
)

-- Whether each of some texts is.
pub all_decides : (names texts : List (List ℕ))
    → Decides (list_all (λ text. list_any (bytes_eq text) names) texts) (All (λ text. Contains names text) texts)
all_decides names texts = Decides-by_and (λ text. list_any (bytes_eq text) names) (λ text. Contains names text)
    (list_all (λ text. list_any (bytes_eq text) names)) (text_decides names) refl (λ _ _. refl) texts

-- None of some texts is one of these where not any is.
none_is_all : (names texts : List (List ℕ))
    → not (list_any (λ text. list_any (bytes_eq text) names) texts) ≡ list_all (λ text. not (list_any (bytes_eq text) names)) texts
none_is_all names [] = refl
none_is_all names (text ∷ texts) = by (list_any (bytes_eq text) names) _ _ (none_is_all names texts)
  where
    by : (b c d : Bool) → not c ≡ d → not (b || c) ≡ (not b && d)
    by true c d same = refl
    by false c d same = same

pub none_decides : (names texts : List (List ℕ))
    → Decides (not (list_any (λ text. list_any (bytes_eq text) names) texts)) (All (λ text. Contains names text → ⊥) texts)
none_decides names texts = Decides-at _ _ (none_is_all names texts)
    (Decides-by_and (λ text. not (list_any (bytes_eq text) names)) (λ text. Contains names text → ⊥)
    (list_all (λ text. not (list_any (bytes_eq text) names))) (λ text. Decides-not _ (text_decides names text)) refl (λ _ _. refl) texts)

-- A test's answer is true where what it decides is.
told : {P : Type 0} (r b : Bool) → r ≡ b → Decides b P → IsTrue r ↔ P
told r b same tests = Decides-at r b same tests

pub contains_tested : (texts : List (List ℕ)) (text : List ℕ) (r : Bool) → r ≡ list_any (bytes_eq text) texts
    → IsTrue r ↔ Contains texts text
contains_tested texts text r same = told r _ same (text_decides texts text)

pub all_tested : (names texts : List (List ℕ)) (r : Bool) → r ≡ list_all (λ text. list_any (bytes_eq text) names) texts
    → IsTrue r ↔ All (λ text. Contains names text) texts
all_tested names texts r same = told r _ same (all_decides names texts)

pub none_tested : (names texts : List (List ℕ)) (r : Bool) → r ≡ not (list_any (λ text. list_any (bytes_eq text) names) texts)
    → IsTrue r ↔ All (λ text. Contains names text → ⊥) texts
none_tested names texts r same = told r _ same (none_decides names texts)

-- Whether an entry applies, by five tests.
pub applies_tested : (arch : TargetArch) (container : Container) (e : Entry) (r all included none excluded fits : Bool)
    (caps ic ia other_caps ec ea : List (List ℕ)) (name : List ℕ) (kernel : Option Kernel)
    → r ≡ (all && (included && (none && (not excluded && fits))))
    → (IsTrue all ↔ All (λ cap. Contains caps cap) ic) → (IsTrue included ↔ ((ia ≡ []) ⊎ Contains ia name))
    → (IsTrue none ↔ All (λ cap. Contains other_caps cap → ⊥) ec) → (IsTrue excluded ↔ Contains ea name)
    → (IsTrue fits ↔ (IfSome e.includes.min_kernel (IsAtLeast kernel) × IfSome e.excludes.min_kernel (λ k. IsAtLeast kernel k → ⊥)))
    → name ≡ go_name arch → caps ≡ container.caps → other_caps ≡ container.caps → kernel ≡ container.kernel
    → ic ≡ e.includes.caps → ia ≡ e.includes.arches → ec ≡ e.excludes.caps → ea ≡ e.excludes.arches
    → IsTrue r ↔ Applies arch container e
applies_tested arch container e r all included none excluded fits caps ic ia other_caps ec ea name kernel same a i n x k name_is
    caps_is others_is kernel_is caps_are arches_are no_caps_are no_arches_are =
    let all_is = subst (λ cs. IsTrue all ↔ All (λ cap. Contains cs cap) e.includes.caps) caps_is
    (subst (λ cs. IsTrue all ↔ All (λ cap. Contains caps cap) cs) caps_are a) in
    let included_is = subst (λ cs. IsTrue included ↔ ((cs ≡ []) ⊎ Contains cs (go_name arch))) arches_are
    (subst (λ go. IsTrue included ↔ ((ia ≡ []) ⊎ Contains ia go)) name_is i) in
    let none_is = subst (λ cs. IsTrue none ↔ All (λ cap. Contains cs cap → ⊥) e.excludes.caps) others_is
    (subst (λ cs. IsTrue none ↔ All (λ cap. Contains other_caps cap → ⊥) cs) no_caps_are n) in
    let excluded_is = subst (λ cs. IsTrue excluded ↔ Contains cs (go_name arch)) no_arches_are
    (subst (λ go. IsTrue excluded ↔ Contains ea go) name_is x) in
    let fits_is = subst (λ own. IsTrue fits ↔ (IfSome e.includes.min_kernel (IsAtLeast own)
    × IfSome e.excludes.min_kernel (λ k. IsAtLeast own k → ⊥))) kernel_is k in
    let five = Decides-at r _ same (Decides-and all _ all_is (Decides-and included _ included_is (Decides-and none _ none_is
    (Decides-and (not excluded) fits (Decides-not excluded excluded_is) fits_is)))) in (
      λ h. let are = five.0 h in record {
        each_cap = are.0;
        this_arch = are.1.0;
        no_cap = are.1.1.0;
        no_arch = are.1.1.1.0;
        from_kernel = are.1.1.1.1.0;
        before_kernel = are.1.1.1.1.1;
      },
      λ is. five.1 (is.each_cap, (is.this_arch, (is.no_cap, (is.no_arch, (is.from_kernel, is.before_kernel))))),
    )
