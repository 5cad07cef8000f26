use Rattle.std.proofs.Common.{rules}
use Rattle.seccomp_text.specs.Hexadecimal.{hexadecimal}
use Rattle.seccomp_text.proofs.Digits.{four_bytes_written}
use Rattle.seccomp_text.proofs.hexadecimal.eight_digits.Goals as goal

pub returns : goal.returns
unfolding hexadecimal
returns c = rw (c.two_digits.ensures, c.two_digits-2.ensures, c.two_digits-3.ensures, c.two_digits-4.ensures, c.to_be_bytes.ensures)
    (four_bytes_written c.args.n (search rules))
