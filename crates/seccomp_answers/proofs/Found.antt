-- What is found under the names of a policy's value.
use Rattle.std.proofs.Common.{◌≡◌, ℕ, List, Option, Some, None, refl, sym, subst, ◌∙◌}
use Rattle.serde_json.specs.Data.{Data}
use Rattle.serde_json.specs.Find.{get}
use Rattle.seccompiler.specs.JsonFilters.{AreFound}
use Rattle.seccompiler.specs.JsonShape.{Under, Lacks}

module _ {X : Type 0} (P : Data → X → Type 0) (find : List ℕ → Option X) (d : Data) (found : AreFound P find d) (name : List ℕ) where
  -- What is found stands for the value of its name.
  pub there : (x : X) → find name ≡ Some x → Under d name (λ value. P value x)
  there x is = by (get name d) refl
    where
      by : (o : Option Data) → get name d ≡ o → Under d name (λ value. P value x)
      by None lacks = let none : Some x ≡ None = sym is ∙ found.no_other name lacks in cc
      by (Some value) has =
          let own = found.each name value has in
          let same : own.found ≡ x = let e : Some own.found ≡ Some x = sym own.there ∙ is in cc in
          (value, has, subst (P value) same own.own)

  -- If nothing is found, the name is not there.
  pub nowhere : find name ≡ None → Lacks d name
  nowhere is = by (get name d) refl
    where
      by : (o : Option Data) → get name d ≡ o → Lacks d name
      by None lacks = lacks
      by (Some value) has = let own = found.each name value has in let some : Some own.found ≡ None = sym own.there ∙ is in cc
