use Rattle.std.proofs.Common.{◌≡◌, ap, length, rules, string_cmp, subst, arith}
use Rattle.std.specs.Option.{IsSome}
use Rattle.std.specs.List.Sorted.{IsStrictlySortedBy}
use Rattle.std.specs.Map.{keys_of}
use Rattle.std.proofs.lemmas.Bool.{false≢true}
use Rattle.std.proofs.lemmas.Bool.Decides.{nat_tests}
use Rattle.seccomp_answers.proofs.chosen.Names.{not_one, only_entry}
use Rattle.seccomp_answers.specs.Chosen.{text_of}
use Rattle.seccomp_answers.proofs.chosen.chosen_name.Goals as goal
use Rattle.seccomp_answers.proofs.chosen.chosen_name.Goals.{then-len-eq1+in_default-first_key_value, else-len-eq1}

pub returns-in-Some-first_key_value-clause-named : goal.returns-in-Some-first_key_value-clause-named
returns-in-Some-first_key_value-clause-named g c =
    let entries = c.args.filters.now.entries in
    let order : IsStrictlySortedBy string_cmp (keys_of entries) = search rules in
    let one : length entries ≡ 1 = grind (arith, nat_tests, c.if-len-eq1.true, c.len.ensures.len) in
    rw c.in_default.is (only_entry entries order c.in-Some-first_key_value.name.now c.in-Some-first_key_value.field-0-1.now _ one
    c.in-Some-first_key_value.ensures.first c.in_ok-clone.ensures.cases)

pub returns-clause-cause : goal.returns-clause-cause
returns-clause-cause g c =
    let entries = c.args.filters.now.entries in
    let order : IsStrictlySortedBy string_cmp (keys_of entries) = search rules in
    let many : length entries ≡ 1 → ⊥ = elim c.if-len-eq1.branch [
      | then-len-eq1+in_default-first_key_value w ↦ λ one. false≢true (subst IsSome w.in_default-first_key_value.is
          (w.first_key_value.ensures.variant.1 (grind (arith, nat_tests, w.if-len-eq1.true, c.len.ensures.len))))
      | else-len-eq1 w ↦ λ one. absurd (grind (arith, nat_tests, w.if-len-eq1.false, c.len.ensures.len, one))
    ] in
    (ap text_of c.in_default.is, not_one entries order many)
