-- For `usual`: what is made of the names that an architecture has calls of, as they are gone through.
use Rattle.std.proofs.Common.{◌≡◌, ◌<◌, ◌≤◌, ◌+◌, ℕ, List, [], ◌∷◌, ◌++◌, Contains, length, get_or, take, map, subst, sym, refl}
use Rattle.std.specs.Prelude.{Any}
use Rattle.std.specs.Borrow.{Bor}
use Rattle.std.proofs.lemmas.List.{map-append, take_all, take_more}
use Rattle.std.proofs.lemmas.List.Elements.{All-nil, All-push, All-weaker, Contains-append_left, Contains-push}
use Rattle.seccompiler.specs.declared.backend.TargetArch.{TargetArch}
use Rattle.seccomp_learn.specs.Usual.{AreOfNames, IsNumbered, entries_of}
use Rattle.seccomp_learn.proofs.Quantified.{any_push}
use Rattle.std.proofs.Common.{ap, ◌∙◌, inl, inr, Some, pos}

module _ {B X : Type 0} (arch : TargetArch) (make : ℕ → B → X) where
  abbrev Made : List (Bor (List ℕ) × B) → List X → Type 0
  Made table xs = AreOfNames arch make (entries_of table) xs

  pub none_made : Made [] []
  none_made = record {
    only = All-nil (λ x. Any (λ (entry : List ℕ × B). (n : ℕ) × IsNumbered arch entry.0 n × (x ≡ make n entry.1)) []);
    each = All-nil (λ (entry : List ℕ × B). (n : ℕ) → IsNumbered arch entry.0 n → Contains [] (make n entry.1));
  }

  same_number : (name : List ℕ) (n m : ℕ) → IsNumbered arch name n → IsNumbered arch name m → n ≡ m
  same_number name n m is other = let e : Some (pos n) ≡ Some (pos m) = sym is ∙ other in cc

  pushed : (entries : List (List ℕ × B)) (xs : List X) (entry : List ℕ × B) (n : ℕ) → AreOfNames arch make entries xs
      → IsNumbered arch entry.0 n → AreOfNames arch make (entries ++ entry ∷ []) (xs ++ make n entry.1 ∷ [])
  pushed entries xs entry n made is =
      let P = λ (x : X) (e : List ℕ × B). (n : ℕ) × IsNumbered arch e.0 n × (x ≡ make n e.1) in
      record {
        only = All-push (λ x. Any (P x) (entries ++ entry ∷ [])) xs (make n entry.1)
            (All-weaker (λ x. Any (P x) entries) (λ x. Any (P x) (entries ++ entry ∷ []))
            (λ x any. (any_push (P x) entries entry).1 (inl any)) xs made.only)
            ((any_push (P (make n entry.1)) entries entry).1 (inr (n, is, refl)));
        each = All-push (λ (e : List ℕ × B). (m : ℕ) → IsNumbered arch e.0 m → Contains (xs ++ make n entry.1 ∷ []) (make m e.1))
            entries entry
            (All-weaker (λ (e : List ℕ × B). (m : ℕ) → IsNumbered arch e.0 m → Contains xs (make m e.1))
            (λ (e : List ℕ × B). (m : ℕ) → IsNumbered arch e.0 m → Contains (xs ++ make n entry.1 ∷ []) (make m e.1))
            (λ e there m other. Contains-append_left xs (make n entry.1 ∷ []) (make m e.1) (there m other)) entries made.each)
            (λ m other. subst (λ k. Contains (xs ++ make n entry.1 ∷ []) (make k entry.1)) (same_number entry.0 n m is other)
            (Contains-push xs (make n entry.1)));
      }

  skipped : (entries : List (List ℕ × B)) (xs : List X) (entry : List ℕ × B) → AreOfNames arch make entries xs
      → ((n : ℕ) → IsNumbered arch entry.0 n → ⊥) → AreOfNames arch make (entries ++ entry ∷ []) xs
  skipped entries xs entry made none =
      let P = λ (x : X) (e : List ℕ × B). (n : ℕ) × IsNumbered arch e.0 n × (x ≡ make n e.1) in
      record {
        only = All-weaker (λ x. Any (P x) entries) (λ x. Any (P x) (entries ++ entry ∷ []))
            (λ x any. (any_push (P x) entries entry).1 (inl any)) xs made.only;
        each = All-push (λ (e : List ℕ × B). (m : ℕ) → IsNumbered arch e.0 m → Contains xs (make m e.1)) entries entry made.each
            (λ m other. absurd (none m other));
      }

  one_more : (table : List (Bor (List ℕ) × B)) (i : ℕ) (d : Bor (List ℕ) × B) → i < length table
      → entries_of (take (i + 1) table)
      ≡ entries_of (take i table) ++ ((get_or table i d).0.now, (get_or table i d).1) ∷ []
  one_more table i d within =
      let f : Bor (List ℕ) × B → List ℕ × B = λ e. (e.0.now, e.1) in
      ap (map f) (take_more table i d within) ∙ map-append f (take i table) (get_or table i d ∷ [])

  -- A name that the architecture has a call of.
  pub made_more : (table : List (Bor (List ℕ) × B)) (xs new : List X) (i : ℕ) (d : Bor (List ℕ) × B) (n : ℕ) → i < length table
      → new ≡ xs ++ make n (get_or table i d).1 ∷ [] → Made (take i table) xs → IsNumbered arch (get_or table i d).0.now n
      → Made (take (i + 1) table) new
  made_more table xs new i d n within is made numbered =
      subst (λ all. AreOfNames arch make (entries_of (take (i + 1) table)) all) (sym is)
      (subst (λ entries. AreOfNames arch make entries (xs ++ make n (get_or table i d).1 ∷ [])) (sym (one_more table i d within))
      (pushed (entries_of (take i table)) xs ((get_or table i d).0.now, (get_or table i d).1) n made numbered))

  -- A name that it has none of.
  pub made_same : (table : List (Bor (List ℕ) × B)) (xs : List X) (i : ℕ) (d : Bor (List ℕ) × B) → i < length table
      → Made (take i table) xs → ((n : ℕ) → IsNumbered arch (get_or table i d).0.now n → ⊥) → Made (take (i + 1) table) xs
  made_same table xs i d within made none =
      subst (λ entries. AreOfNames arch make entries xs) (sym (one_more table i d within))
      (skipped (entries_of (take i table)) xs ((get_or table i d).0.now, (get_or table i d).1) made none)

  -- The end of the table.
  pub all_made : (table : List (Bor (List ℕ) × B)) (xs : List X) (i : ℕ) → length table ≤ i → Made (take i table) xs → Made table xs
  all_made table xs i end made = subst (λ all. Made all xs) (take_all i table end) made
