use Rattle.std.proofs.Common.{refl}
use Rattle.seccomp_text.specs.Hexadecimal.{hexadecimal}
use Rattle.seccomp_text.proofs.listing.line.Goals as goal

pub returns : goal.returns
unfolding hexadecimal
returns c = rw (c.four_digits.ensures, c.two_digits.ensures, c.two_digits-2.ensures, c.eight_digits.ensures) refl
