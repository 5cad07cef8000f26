-- The code of a condition: the table of its fourteen shapes.
use Rattle.std.specs.Prelude.{ℕ, ◌+◌, ◌*◌, ◌/◌, ◌%◌, ◌^◌, List, [], ◌∷◌, bit_and}
use Rattle.seccompiler.specs.declared.bpf.sock_filter.{sock_filter}
use Rattle.seccompiler.specs.declared.backend.SeccompCmpOp.{SeccompCmpOp}
use Rattle.seccompiler.specs.declared.backend.SeccompCmpOp.TheVariants.{Eq, Ge, Gt, Le, Lt, MaskedEq, Ne}
use Rattle.seccompiler.specs.declared.backend.SeccompCmpArgLen.{SeccompCmpArgLen}
use Rattle.seccompiler.specs.declared.backend.SeccompCmpArgLen.TheVariants.{Dword, Qword}
use Rattle.seccompiler.specs.Code.{load, mask, jump_equal, jump_greater, jump_at_least}
use Rattle.seccompiler.specs.Policy.{Condition}

-- The code of a comparison with v of the argument whose low half is at byte `low` of the record, its high half
-- 4 bytes later; if it fails it leaves d places after its end.
abbrev pub comparison_code : SeccompCmpArgLen → SeccompCmpOp → ℕ → ℕ → ℕ → List sock_filter
comparison_code Dword Eq low v d = load low ∷ jump_equal (v % 2 ^ 32) 0 d ∷ []
comparison_code Dword Ne low v d = load low ∷ jump_equal (v % 2 ^ 32) d 0 ∷ []
comparison_code Dword Ge low v d = load low ∷ jump_at_least (v % 2 ^ 32) 0 d ∷ []
comparison_code Dword Gt low v d = load low ∷ jump_greater (v % 2 ^ 32) 0 d ∷ []
comparison_code Dword Le low v d = load low ∷ jump_greater (v % 2 ^ 32) d 0 ∷ []
comparison_code Dword Lt low v d = load low ∷ jump_at_least (v % 2 ^ 32) d 0 ∷ []
comparison_code Dword (MaskedEq m) low v d =
    load low ∷ mask (m % 2 ^ 32) ∷ jump_equal (bit_and (v % 2 ^ 32) (m % 2 ^ 32)) 0 d ∷ []
comparison_code Qword Eq low v d =
    load (low + 4) ∷ jump_equal (v / 2 ^ 32) 0 (d + 2) ∷ load low ∷ jump_equal (v % 2 ^ 32) 0 d ∷ []
comparison_code Qword Ne low v d =
    load (low + 4) ∷ jump_equal (v / 2 ^ 32) 0 2 ∷ load low ∷ jump_equal (v % 2 ^ 32) d 0 ∷ []
comparison_code Qword Ge low v d =
    load (low + 4) ∷ jump_greater (v / 2 ^ 32) 3 0 ∷ jump_equal (v / 2 ^ 32) 0 (d + 2) ∷ load low ∷ jump_at_least (v % 2 ^ 32) 0 d ∷ []
comparison_code Qword Gt low v d =
    load (low + 4) ∷ jump_greater (v / 2 ^ 32) 3 0 ∷ jump_equal (v / 2 ^ 32) 0 (d + 2) ∷ load low ∷ jump_greater (v % 2 ^ 32) 0 d ∷ []
comparison_code Qword Le low v d =
    load (low + 4) ∷ jump_greater (v / 2 ^ 32) (d + 3) 0 ∷ jump_equal (v / 2 ^ 32) 0 2 ∷ load low ∷ jump_greater (v % 2 ^ 32) d 0 ∷ []
comparison_code Qword Lt low v d =
    load (low + 4) ∷ jump_greater (v / 2 ^ 32) (d + 3) 0 ∷ jump_equal (v / 2 ^ 32) 0 2 ∷ load low ∷ jump_at_least (v % 2 ^ 32) d 0 ∷ []
comparison_code Qword (MaskedEq m) low v d =
    load (low + 4) ∷ mask (m / 2 ^ 32) ∷ jump_equal (bit_and (v / 2 ^ 32) (m / 2 ^ 32)) 0 (d + 3)
    ∷ load low ∷ mask (m % 2 ^ 32) ∷ jump_equal (bit_and (v % 2 ^ 32) (m % 2 ^ 32)) 0 d ∷ []

-- The code of a condition that leaves d places after its end if it fails.
abbrev pub condition_code : Condition → ℕ → List sock_filter
condition_code c d = comparison_code c.arg_len c.operator (16 + 8 * c.arg_index) c.value d

-- Its last instruction, which tests the low half.
abbrev pub test_code : SeccompCmpOp → ℕ → ℕ → sock_filter
test_code Eq v d = jump_equal v 0 d
test_code Ne v d = jump_equal v d 0
test_code Ge v d = jump_at_least v 0 d
test_code Gt v d = jump_greater v 0 d
test_code Le v d = jump_greater v d 0
test_code Lt v d = jump_at_least v d 0
test_code (MaskedEq m) v d = jump_equal (bit_and v (m % 2 ^ 32)) 0 d
