-- How long two programs are as one.
use Rattle.std.proofs.Common.{◌≡◌, ℕ, suc, ◌+◌, ◌*◌, List, [], ◌∷◌, length, ap, ◌∙◌, arith, length-append}
use Rattle.std.specs.List.{flat_map}
use Rattle.std.proofs.lemmas.List.{length-map}
use Rattle.seccompiler.specs.declared.bpf.sock_filter.{sock_filter}
use Rattle.seccomp_stack.specs.Joined.{front, in_copy, copy, joined, words_in}
use Rattle.seccomp_stack.proofs.OlderRuns.{length-front}

length-copies : (newer : List sock_filter) (words : List ℕ) → length (flat_map (copy newer) words) ≡ length words * (length newer + 1)
length-copies newer [] = omega arith
length-copies newer (w ∷ words) =
    let one : length (copy newer w) ≡ length newer + 1 = ap suc (length-map newer (in_copy w)) ∙ omega arith in
    let rest = length-copies newer words in
    let both = length-append (copy newer w) (flat_map (copy newer) words) in
    let next : suc (length words) * (length newer + 1) ≡ length newer + 1 + length words * (length newer + 1) = omega arith in
    both ∙ omega (arith, one, rest, next)

pub length-joined : (older newer : List sock_filter)
    → length (joined older newer) ≡ length older + length (words_in older) * (length newer + 1)
length-joined older newer =
    let words = words_in older in
    let head = front words (length newer + 1) older in
    length-append head (flat_map (copy newer) words)
    ∙ (λ i. length-front words (length newer + 1) older i + length-copies newer words i)
