-- For `amiss`: what is amiss with an instruction that can't stand where it does.
use Rattle.std.proofs.Common.{◌≡◌, ◌≢◌, ℕ, ◌+◌, ◌<◌, inl, inr, arith}
use Rattle.std.proofs.lemmas.Bool.{cases_lt}
use Rattle.seccompiler.specs.declared.bpf.sock_filter.{sock_filter}
use Rattle.seccompiler.specs.Machine.{fine_jump, fine_equal, fine_greater, fine_at_least}
use Rattle.seccomp_compare.specs.Machine.{IsFine, fine_of_seven, fine_jset}
use Rattle.seccomp_answers.specs.ProgramFaults.{IsTest, JumpsBehind, always, where_met, where_unmet}
use Rattle.seccomp_answers.specs.ProgramParts.{CantStand}

-- A jump leads behind the end.
pub jump_behind : (i : sock_filter) (place n : ℕ) → i.code ≡ 0x05 → CantStand i place n → JumpsBehind i place n
jump_behind i place n code (inl broken) = elim (cases_lt (place + 1 + i.k) n) [
  | inl less ↦ absurd (broken (fine_of_seven (fine_jump code less)))
  | inr behind ↦ always code behind
]
jump_behind i place n code (inr last) = always code (omega (arith, last.0))

-- A test whose offsets lead to places is fine.
fine_test : (i : sock_filter) (place n : ℕ) → IsTest i → place + 1 + i.jt < n → place + 1 + i.jf < n → IsFine i place n
fine_test i place n (inl code) met unmet = fine_of_seven (fine_equal code met unmet)
fine_test i place n (inr (inl code)) met unmet = fine_of_seven (fine_greater code met unmet)
fine_test i place n (inr (inr (inl code))) met unmet = fine_of_seven (fine_at_least code met unmet)
fine_test i place n (inr (inr (inr code))) met unmet = fine_jset code met unmet

-- So one of them leads behind the end.
pub test_behind : (i : sock_filter) (place n : ℕ) → IsTest i → CantStand i place n → JumpsBehind i place n
test_behind i place n test (inl broken) = elim (cases_lt (place + 1 + i.jt) n) [
  | inl met ↦ elim (cases_lt (place + 1 + i.jf) n) [
    | inl unmet ↦ absurd (broken (fine_test i place n test met unmet))
    | inr behind ↦ where_unmet test behind
  ]
  | inr behind ↦ where_met test behind
]
test_behind i place n test (inr last) = where_met test (omega (arith, last.0))

-- One that is fine is the last.
pub at_end : (i : sock_filter) (place n : ℕ) → IsFine i place n → CantStand i place n
    → IsFine i place n × (place + 1 ≡ n) × (i.code ≢ 0x06)
at_end i place n fine (inl broken) = absurd (broken fine)
at_end i place n fine (inr last) = (fine, last.0, last.1)
