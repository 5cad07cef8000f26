use Rattle.std.proofs.Common.{◌≡◌, ◌≤◌, ◌<◌, ◌-◌, ◌*◌, ◌^◌, ◌%◌, bit_and, subst, sym, arith}
use Rattle.std.proofs.lemmas.Bool.Decides.{nat_tests}
use Rattle.std.proofs.lemmas.Nat.{one_shl, pow_pos}
use Rattle.seccomp_compare.proofs.Masks.{order_kept}
use Rattle.seccomp_compare.proofs.values.keeps_order.Goals as goal

pub returns : goal.returns
returns c = λ holds x y le fits.
    let k = c.min-lowest.result in
    let within : k < 32 = omega (arith, c.min-lowest.ensures) in
    let lowest : 1 * 2 ^ k % 2 ^ 32 ≡ 2 ^ k = one_shl k 32 within in
    let is : c.args.mask ≡ 4294967295 - (1 * 2 ^ k % 4294967296 - 1) = grind (arith, nat_tests) in
    let some = pow_pos k in
    let mask : c.args.mask ≡ 2 ^ 32 - 2 ^ k = omega (arith, is, lowest, some) in
    subst (λ m. bit_and x m ≤ bit_and y m) (sym mask) (order_kept k x y (omega (arith, within)) le fits)
