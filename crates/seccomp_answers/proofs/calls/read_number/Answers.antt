use Rattle.std.proofs.Common.{◌≡◌, ℕ, List, ◌++◌, Option, Some, None, IfSome, codes, sym, ap, ◌∙◌}
use Rattle.seccomp_text.specs.Numbers.{IsWritten}
use Rattle.seccomp_answers.specs.Numbers.{IsNumber, hexadecimal}
use Rattle.seccomp_answers.proofs.calls.read_number.Goals as goal

-- What the digits behind the prefix write, the text does.
behind_prefix : (text digits : List ℕ) (r : Option ℕ) → text ≡ codes "0x" ++ digits → IfSome r (IsWritten 16 digits)
    → IfSome r (IsNumber text)
behind_prefix text digits None same written = tt
behind_prefix text digits (Some n) same written = hexadecimal digits same written

pub returns-in-Some-clause-read : goal.returns-in-Some-clause-read
returns-in-Some-clause-read c =
    let cut = c.in-Some.ensures.cases in
    behind_prefix c.args.text.now c.in-Some.digits.now c.read_digits.result
    (cut.1.1 ∙ ap (λ digits. codes "0x" ++ digits) (sym cut.2)) c.read_digits.ensures.read
