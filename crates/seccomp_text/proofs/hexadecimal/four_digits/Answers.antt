use Rattle.std.proofs.Common.{rules}
use Rattle.seccomp_text.specs.Hexadecimal.{hexadecimal}
use Rattle.seccomp_text.proofs.Digits.{two_bytes_written}
use Rattle.seccomp_text.proofs.hexadecimal.four_digits.Goals as goal

pub returns : goal.returns
unfolding hexadecimal
returns c = rw (c.two_digits.ensures, c.two_digits-2.ensures, c.to_be_bytes.ensures) (two_bytes_written c.args.n (search rules))
