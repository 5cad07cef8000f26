-- For what is given name by name: pairs with the filters that are found under a policy's names.
use Rattle.std.proofs.Common.{◌≡◌, ℕ, List, Contains, String, Global, string_bytes, nat_cmp, sym, subst}
use Rattle.std.specs.Cmp.Lexicographic.{slice_cmp}
use Rattle.std.specs.List.{AllZip}
use Rattle.std.specs.List.Sorted.{IsStrictlySortedBy}
use Rattle.serde_json.specs.Data.{Data}
use Rattle.seccompiler.specs.JsonFilters.{AreNamed}
use Rattle.seccompiler.specs.JsonShape.{Has, Under}
use Rattle.seccomp_answers.proofs.Pairs.{all_second, same_under}

module _ {X Y : Type 0} (P : Data → X → Type 0) (d : Data) (entries : List (String Global × X))
    (own : AreNamed (λ (e : String Global × X). string_bytes e.0) (λ e value. P value e.1) d entries)
    (name_of : Y → List ℕ) (R : String Global × X → Y → Type 0) (Q : Y → Data → Type 0)
    (named : (e : String Global × X) (y : Y) → R e y → name_of y ≡ string_bytes e.0)
    (shows : (e : String Global × X) (y : Y) (value : Data) → R e y → P value e.1 → Q y value) where
  -- What goes with a filter is as Q says of the value under its name.
  under : (e : String Global × X) (y : Y) → R e y → Under d (string_bytes e.0) (λ value. P value e.1) → Under d (name_of y) (Q y)
  under e y is value = (value.0, subst (λ name. Has d name value.0) (sym (named e y is)) value.1, shows e y value.0 is value.2)

  -- What goes with all filters, place by place, is named as they are.
  pub are_named : (ys : List Y) → AllZip R entries ys → AreNamed name_of Q d ys
  are_named ys pairs =
      let names = same_under R (λ (e : String Global × X). string_bytes e.0) name_of named entries ys pairs in
      record {
        ordered = subst (IsStrictlySortedBy (slice_cmp nat_cmp)) (sym names) own.ordered;
        each = all_second R (λ (e : String Global × X). Under d (string_bytes e.0) (λ value. P value e.1)) (λ y. Under d (name_of y) (Q y))
            under entries ys pairs own.each;
        complete = λ name value has. subst (λ ns. Contains ns name) (sym names) (own.complete name value has);
      }
