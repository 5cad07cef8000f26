use Rattle.std.proofs.Common.{rules}
use Rattle.seccomp_text.proofs.Digits.{byte_written}
use Rattle.seccomp_text.proofs.hexadecimal.two_digits.Goals as goal

pub returns : goal.returns
returns c = rw (c.digit.ensures, c.digit-2.ensures) (byte_written c.args.n (search rules))
