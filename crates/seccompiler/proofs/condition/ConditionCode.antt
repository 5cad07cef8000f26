-- For `SeccompCondition::write`: the code of a condition is what the code around it needs: as long as its size, closed, and with two exits.
use Rattle.std.proofs.Common.{◌≡◌, ℕ, ◌+◌, ◌*◌, ◌≤◌, ◌%◌, List, length, refl, sym, subst, arith}
use Rattle.seccompiler.specs.declared.bpf.sock_filter.{sock_filter}
use Rattle.seccompiler.specs.declared.backend.SeccompCmpOp.{SeccompCmpOp}
use Rattle.seccompiler.specs.declared.backend.SeccompCmpArgLen.{SeccompCmpArgLen}
use Rattle.seccompiler.specs.Machine.{word_at, argument_at, AreInRange}
use Rattle.seccompiler.specs.Pieces.{IsInside, inside_load, inside_mask, inside_equal, inside_greater, inside_at_least, IsConditionCode}
use Rattle.seccompiler.specs.Policy.{Condition, size_by}
use Rattle.seccompiler.specs.ConditionCode.{comparison_code, condition_code}
use Rattle.seccompiler.proofs.Closed.{Each, closed_from}
use Rattle.seccompiler.proofs.Words.{word_fits, number_halves}
use Rattle.seccompiler.proofs.condition.Comparisons.{comparison_exits}

-- The code is as long as the comparison's size.
length-comparison_code : (len : SeccompCmpArgLen) (op : SeccompCmpOp) (low v d : ℕ)
    → length (comparison_code len op low v d) ≡ size_by len op
length-comparison_code len op low v d = grind arith

-- each jump of a comparison leads at most d places behind its end
module _ (low v d : ℕ) (aligned : low % 4 ≡ 0) (within : low ≤ 56) where
  inside_code : (len : SeccompCmpArgLen) (op : SeccompCmpOp)
      → let code = comparison_code len op low v d in Each (λ k i. IsInside i k (length code + d)) 0 code
  inside_code len op = grind (arith, inside_load, inside_mask, inside_equal, inside_greater, inside_at_least)

-- a part that was filled with the code of a condition, which is known under another name too
pub written_meets : {view c : Condition} {d : ℕ} {part : List sock_filter} → view ≡ c
    → view.arg_index ≤ 5 → part ≡ condition_code c d → AreInRange part → IsConditionCode c d part
written_meets {view} {c} {d} same is_argument written ranges =
    let small : c.arg_index ≤ 5 = subst (λ x. x.arg_index ≤ 5) same is_argument in
    let low = 16 + 8 * c.arg_index in subst (λ code. IsConditionCode c d code) (sym written) record {
      long = length-comparison_code c.arg_len c.operator low c.value d;
      ranges = subst AreInRange written ranges;
      closed = closed_from (condition_code c d) _ (inside_code low c.value d (omega arith) (omega arith) c.arg_len c.operator);
      enters = λ r rec a fits. comparison_exits low c.value d (argument_at r c.arg_index) (word_at r low) (word_at r (low + 4)) r
          (omega (arith, rec.long)) (word_fits r low rec) (word_fits r (low + 4) rec) refl refl
          (number_halves r low) a fits c.arg_len c.operator;
    }
