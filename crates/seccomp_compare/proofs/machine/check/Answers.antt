use Rattle.std.proofs.Common.{◌≡◌, ◌≢◌, ◌↔◌, ℕ, IsTrue, List, Some, subst, rules}
use Rattle.std.specs.Prelude.{All, slice_get}
use Rattle.std.proofs.lemmas.List.Elements.{All-get_or}
use Rattle.std.proofs.lemmas.Option.{get_or_from_slice_get, slice_get_within}
use Rattle.seccompiler.specs.declared.bpf.sock_filter.{sock_filter}
use Rattle.seccomp_compare.specs.Machine.{IsChecked}
use Rattle.seccomp_compare.proofs.OfSeven.{checked_of_seven, seven_checked}
use Rattle.seccomp_compare.proofs.machine.check.Goals as goal

-- each instruction that is found is none of JSET, if none is
is_other : (p : List sock_filter) → All (λ i. i.code ≢ 0x45) p → (place : ℕ) (i : sock_filter) → slice_get p place ≡ Some i → i.code ≢ 0x45
is_other p others place i found =
    subst (λ (j : sock_filter). j.code ≢ 0x45) (get_or_from_slice_get p place i i found)
    (All-get_or (λ (j : sock_filter). j.code ≢ 0x45) p place i (slice_get_within p place i found) others)

pub returns-clause-of_seven : goal.returns-clause-of_seven
returns-clause-of_seven c = λ others.
    let p = c.args.prog.now in
    let both : IsTrue c.is_none.result ↔ IsChecked p = search rules in
    (λ passes. seven_checked p (is_other p others) (both.0 passes), λ checked. both.1 (checked_of_seven p checked))
