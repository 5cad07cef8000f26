-- For `push_lists`: one list of conditions more.
use Rattle.std.proofs.Common.{◌≡◌, ℕ, suc, ◌+◌, ◌<◌, List, [], ◌∷◌, ◌++◌, Bool, Vec, Global, length, get_or, take, sym, ap}
use Rattle.std.proofs.Common.{◌∙◌, arith}
use Rattle.std.proofs.Common.{append_assoc, length-take-le}
use Rattle.std.proofs.lemmas.List.{length-map, map_push}
use Rattle.seccomp_entries.specs.declared.entry.Action.{Action}
use Rattle.seccompiler.specs.Policy.{Condition}
use Rattle.seccomp_entries.specs.Entries as entries
use Rattle.seccomp_profiles.specs.Concerns.{entries_from, entry_for}
use Rattle.seccomp_profiles.proofs.Quantified.{more_read}
use Rattle.seccomp_profiles.proofs.concerns.Conditions.{lists_of}

module _ (place : ℕ) (action : Action) (number : ℕ) (is_alone : Bool) where
  abbrev From : ℕ → List (List Condition) → List entries.Entry
  From = entries_from place action number is_alone

  abbrev Own : ℕ → List Condition → entries.Entry
  Own = entry_for place action number is_alone

  from_push : (index : ℕ) (lists : List (List Condition)) (cs : List Condition)
      → From index (lists ++ cs ∷ []) ≡ From index lists ++ Own (index + length lists) cs ∷ []
  from_push index [] cs =
      let same : index ≡ index + 0 = omega arith in ap (λ k. Own k cs ∷ []) same
  from_push index (ds ∷ lists) cs =
      let same : index + 1 + length lists ≡ index + suc (length lists) = omega arith in
      ap (λ es. Own index ds ∷ es) (from_push (index + 1) lists cs ∙ ap (λ k. From (index + 1) lists ++ Own k cs ∷ []) same)

  pub next_list : (before all new : List entries.Entry) (lists : List (Vec Condition Global)) (i : ℕ) (list : Vec Condition Global)
      → i < length lists → list ≡ get_or lists i list → all ≡ before ++ From 0 (lists_of (take i lists))
      → new ≡ all ++ Own i list.items ∷ [] → new ≡ before ++ From 0 (lists_of (take (i + 1) lists))
  next_list before all new lists i list within read so_far longer =
      let items = λ (cs : Vec Condition Global). cs.items in
      let more : lists_of (take (i + 1) lists) ≡ lists_of (take i lists) ++ list.items ∷ [] =
      ap lists_of (more_read lists i list within read) ∙ map_push items (take i lists) list in
      let long : 0 + length (lists_of (take i lists)) ≡ i =
      omega (arith, length-map (take i lists) items, length-take-le i lists (omega (arith, within))) in
      let last : From 0 (lists_of (take (i + 1) lists)) ≡ From 0 (lists_of (take i lists)) ++ Own i list.items ∷ [] =
      ap (From 0) more ∙ from_push 0 (lists_of (take i lists)) list.items
      ∙ ap (λ k. From 0 (lists_of (take i lists)) ++ Own k list.items ∷ []) long in
      longer ∙ ap (λ es. es ++ Own i list.items ∷ []) so_far
      ∙ append_assoc before (From 0 (lists_of (take i lists))) (Own i list.items ∷ []) ∙ ap (λ es. before ++ es) (sym last)
