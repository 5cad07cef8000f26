-- For `found_by_name`: what is found, name by name.
use Rattle.std.proofs.Common.{◌≡◌, ℕ, List, [], ◌∷◌, ◌++◌, map, All, Contains, Some, Option, String, Global, string_bytes}
use Rattle.std.proofs.Common.{sym, ap, ◌∙◌, subst, append-nil, append_assoc, string_cmp, refl, arith}
use Rattle.std.specs.BTreeMap.{is_at}
use Rattle.std.specs.List.Sorted.{IsStrictlySortedBy}
use Rattle.std.specs.Map.{keys_of, lookup}
use Rattle.std.proofs.lemmas.List.{map-append}
use Rattle.std.proofs.lemmas.List.Elements.{All-map, All-push, All-weaker, All-contains, Contains-append_left, Contains-append_right}
use Rattle.std.proofs.lemmas.List.Elements.{Contains-push}
use Rattle.std.proofs.lemmas.Map.Text.{text_cmp}
use Rattle.seccompiler.specs.Policy.{Filter}
use Rattle.seccomp_answers.proofs.ByName.{by_text, found_name, found_there}
use Rattle.seccompiler.specs.declared.backend.TargetArch.{TargetArch}
use Rattle.seccomp_compare.specs.declared.Relation.{Relation}
use Rattle.seccomp_answers.specs.Diff.{IsFoundOf, IsFoundUnder, name_bytes}
use Rattle.seccomp_answers.specs.Sides.{Policies}
use Rattle.seccomp_answers.specs.declared.diff.NamedFound.{NamedFound}

abbrev pub Entries : Type 0
Entries = List (String Global × Filter)

-- Something is found under the name of this filter.
abbrev pub IsAmong : List NamedFound → String Global × Filter → Type 0
IsAmong all e = Contains (map name_bytes all) (string_bytes e.0)

-- Those that are among them stay so if one is found more.
pub among_more : (all : List NamedFound) (one : NamedFound) (entries : Entries) → All (IsAmong all) entries
    → All (IsAmong (all ++ one ∷ [])) entries
among_more all one entries = All-weaker (IsAmong all) (IsAmong (all ++ one ∷ [])) (λ e has.
    subst (λ names. Contains names (string_bytes e.0)) (sym (map-append name_bytes all (one ∷ [])))
    (Contains-append_left (map name_bytes all) (name_bytes one ∷ []) (string_bytes e.0) has)) entries

module _ (target : TargetArch) (relation : Relation) (old new : Policies) where
  -- All of these are found under their names, and these filters are among them, but for those that are left.
  pub record AreSoFar (all : List NamedFound) (entries left : Entries) : Type 0 where
    pub done : Entries
    pub whole : entries ≡ done ++ left
    pub each : All (IsFoundUnder target relation old new) all
    pub among : All (IsAmong all) done

  -- One filter more that is among them.
  pub passed : (all : List NamedFound) (entries left rest : Entries) (e : String Global × Filter) → AreSoFar all entries left
      → left ≡ e ∷ rest → IsAmong all e → AreSoFar all entries rest
  passed all entries left rest e so_far step among = record {
    done = so_far.done ++ e ∷ [];
    whole = so_far.whole ∙ ap (λ (es : Entries). so_far.done ++ es) step ∙ sym (append_assoc so_far.done (e ∷ []) rest);
    each = so_far.each;
    among = All-push (IsAmong all) so_far.done e so_far.among among;
  }

  -- One that is found now.
  pub found_more : (all longer : List NamedFound) (entries left rest : Entries) (one : NamedFound) (e : String Global × Filter)
      → AreSoFar all entries left → left ≡ e ∷ rest → IsFoundUnder target relation old new one → name_bytes one ≡ string_bytes e.0
      → longer ≡ all ++ one ∷ [] → AreSoFar longer entries rest
  found_more all longer entries left rest one e so_far step found named is =
      let here = subst (λ names. Contains names (name_bytes one)) (sym (map-append name_bytes all (one ∷ [])))
      (Contains-push (map name_bytes all) (name_bytes one)) in
      subst (λ (ns : List NamedFound). AreSoFar ns entries rest) (sym is) (passed (all ++ one ∷ []) entries left rest e
      (record {
        done = so_far.done;
        whole = so_far.whole;
        each = All-push (IsFoundUnder target relation old new) all one so_far.each found;
        among = among_more all one so_far.done so_far.among;
      })
      step (subst (Contains (map name_bytes (all ++ one ∷ []))) named here))

  -- Where none is left, all are among them.
  pub all_among : (all : List NamedFound) (entries left : Entries) → AreSoFar all entries left → left ≡ [] → All (IsAmong all) entries
  all_among all entries left so_far none =
      subst (All (IsAmong all)) (sym (so_far.whole ∙ ap (λ (es : Entries). so_far.done ++ es) none ∙ append-nil so_far.done)) so_far.among

-- What is found in a policy is among them, if all its filters are.
pub found_among : (all : List NamedFound) (entries : Entries) → All (IsAmong all) entries → (name : List ℕ) (f : Filter)
    → lookup (is_at (text_cmp name)) entries ≡ Some f → Contains (map name_bytes all) name
found_among all entries among name f is =
    All-contains (Contains (map name_bytes all)) (map (λ (e : String Global × Filter). string_bytes e.0) entries) name
    (All-map (Contains (map name_bytes all)) (λ (e : String Global × Filter). string_bytes e.0) entries among)
    (found_name name f entries (sym (by_text name entries) ∙ is))

-- In order, the filter that comes next is found under its name.
pub next_found : (entries done left rest : Entries) (e : String Global × Filter) → IsStrictlySortedBy string_cmp (keys_of entries)
    → entries ≡ done ++ left → left ≡ e ∷ rest → lookup (is_at (text_cmp (string_bytes e.0))) entries ≡ Some e.1
next_found entries done left rest e order whole step =
    by_text (string_bytes e.0) entries ∙ found_there entries e order
    (subst (λ (es : Entries). Contains es e) (sym (whole ∙ ap (λ (es : Entries). done ++ es) step))
    (Contains-append_right done (e ∷ rest) e (0, omega arith, refl)))

-- What is found of two filters is found under their name.
pub under_name : (target : TargetArch) (relation : Relation) (old new : Policies) (one : NamedFound)
    (old_found new_found : Option Filter) → old_found ≡ old (name_bytes one) → new_found ≡ new (name_bytes one)
    → IsFoundOf target relation old_found new_found one.found → IsFoundUnder target relation old new one
under_name target relation old new one old_found new_found of_old of_new found =
    subst (λ o. IsFoundOf target relation o (new (name_bytes one)) one.found) of_old
    (subst (λ o. IsFoundOf target relation old_found o one.found) of_new found)
