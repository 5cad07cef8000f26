-- A program that may be run returns on each record.
use Rattle.std.proofs.Common.{◌≡◌, ◌≢◌, ℕ, zero, suc, ◌+◌, ◌<◌, ◌≤◌, List, length, get_or, Some, refl, arith, ⊎_elim}
use Rattle.std.proofs.Common.{◌⊎◌, inl, inr}
use Rattle.std.specs.Prelude.{slice_get, bit_and}
use Rattle.std.proofs.lemmas.Bool.{cases_eq, cases_lt}
use Rattle.std.proofs.lemmas.Option.{slice_get-get_or}
use Rattle.seccompiler.specs.declared.bpf.sock_filter.{sock_filter}
use Rattle.seccompiler.specs.Machine as of_seven
use Rattle.seccompiler.specs.Machine.{IsRecord, word_at}
use Rattle.seccomp_compare.specs.Machine.{Does, as_of_seven, has_bits, has_no_bits, EndsFrom, returns, goes_on, IsFine, fine_of_seven}
use Rattle.seccomp_compare.proofs.machine.CheckedLemmas.{not_last}
use Rattle.seccomp_compare.specs.Machine.{fine_jset, Ends, IsChecked}

-- an instruction that doesn't return leads on, to a place before n
record LeadsOn (i : sock_filter) (r : List ℕ) (place a n : ℕ) : Type 0 where
  pub to : ℕ
  pub leaves : ℕ
  pub does : Does i r place a to leaves
  pub later : place < to
  pub within : to < n

leads : {i : sock_filter} {r : List ℕ} {place a n : ℕ} (to leaves : ℕ) → Does i r place a to leaves → place < to → to < n
    → (i.code ≡ 6) ⊎ LeadsOn i r place a n
leads to leaves does later within = inr (record { to = to; leaves = leaves; does = does; later = later; within = within })

leads_on : (i : sock_filter) (r : List ℕ) (place a n : ℕ) → length r ≡ 64 → IsFine i place n → (i.code ≢ 6 → place + 1 < n)
    → (i.code ≡ 6) ⊎ LeadsOn i r place a n
leads_on i r place a n long (fine_of_seven (of_seven.fine_load code aligned inside)) next =
    leads (place + 1) (word_at r i.k) (as_of_seven (of_seven.loads code (omega arith) refl refl)) (omega arith) (next (λ is. omega arith))
leads_on i r place a n long (fine_of_seven (of_seven.fine_mask code)) next =
    leads (place + 1) (bit_and a i.k) (as_of_seven (of_seven.masks code refl refl)) (omega arith) (next (λ is. omega arith))
leads_on i r place a n long (fine_of_seven (of_seven.fine_jump code to)) next =
    leads (place + 1 + i.k) a (as_of_seven (of_seven.jumps code refl refl)) (omega arith) to
leads_on i r place a n long (fine_of_seven (of_seven.fine_equal code to other)) next =
    ⊎_elim
    (λ holds. leads (place + 1 + i.jt) a (as_of_seven (of_seven.is_equal code holds refl refl)) (omega arith) to)
    (λ fails. leads (place + 1 + i.jf) a (as_of_seven (of_seven.is_not_equal code fails refl refl)) (omega arith) other)
    (cases_eq a i.k)
leads_on i r place a n long (fine_of_seven (of_seven.fine_greater code to other)) next =
    ⊎_elim
    (λ holds. leads (place + 1 + i.jt) a (as_of_seven (of_seven.is_greater code holds refl refl)) (omega arith) to)
    (λ fails. leads (place + 1 + i.jf) a (as_of_seven (of_seven.is_not_greater code fails refl refl)) (omega arith) other)
    (cases_lt i.k a)
leads_on i r place a n long (fine_of_seven (of_seven.fine_at_least code to other)) next =
    ⊎_elim
    (λ fails. leads (place + 1 + i.jf) a (as_of_seven (of_seven.is_less code fails refl refl)) (omega arith) other)
    (λ holds. leads (place + 1 + i.jt) a (as_of_seven (of_seven.is_at_least code holds refl refl)) (omega arith) to)
    (cases_lt a i.k)
leads_on i r place a n long (fine_of_seven (of_seven.fine_return code)) next = inl code
leads_on i r place a n long (fine_jset code to other) next =
    ⊎_elim
    (λ fails. leads (place + 1 + i.jf) a (has_no_bits code fails refl refl) (omega arith) other)
    (λ holds. leads (place + 1 + i.jt) a (has_bits code holds refl refl) (omega arith) to)
    (cases_eq (bit_and a i.k) 0)

any : sock_filter
any = record { code = 0; jt = 0; jf = 0; k = 0 }

-- with so many places left, a run returns
ends_within : (p : List sock_filter) (r : List ℕ) → IsChecked p → length r ≡ 64 → (left place a : ℕ) → length p ≤ place + left
    → place < length p → (n : ℕ) × (w : ℕ) × EndsFrom p r place a n w
ends_within p r checked long zero place a enough within = absurd (omega arith)
ends_within p r checked long (suc left) place a enough within =
    let i = get_or p place any in
    let here : slice_get p place ≡ Some i = slice_get-get_or p place any within in
    ⊎_elim
    (λ is. (1, i.k, returns i here is))
    (λ leads.
    let later = leads.later in
    let rest = ends_within p r checked long left leads.to leads.leaves (omega arith) leads.within in
    (suc rest.0, rest.1, goes_on i here leads.does rest.2))
    (leads_on i r place a (length p) long (checked.each place i here) (not_last p place any checked within))

pub ends_somehow : (p : List sock_filter) (r : List ℕ) → IsChecked p → IsRecord r → (n : ℕ) × (w : ℕ) × Ends p r n w
ends_somehow p r checked rec =
    let some = checked.some in ends_within p r checked rec.long (length p) 0 0 (omega arith) (omega arith)
