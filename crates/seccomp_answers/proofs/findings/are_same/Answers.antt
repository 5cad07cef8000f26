use Rattle.std.proofs.Common.{◌≡◌, ℕ, Bool, true, ◌&&◌, nat_eq, ap, subst, ◌∙◌, arith}
use Rattle.std.proofs.lemmas.Bool.Decides.{nat_tests}
use Rattle.std.proofs.lemmas.Slice.Eq.{slice_eq-Decides}
use Rattle.seccompiler.specs.declared.bpf.sock_filter.{sock_filter}
use Rattle.seccomp_answers.proofs.findings.are_same.Goals as goal

abbrev instruction : ℕ → ℕ → ℕ → ℕ → sock_filter
instruction code jt jf k = record { code = code; jt = jt; jf = jf; k = k }

-- The fields of two instructions are the same.
abbrev are_equal : sock_filter → sock_filter → Bool
are_equal a b = nat_eq a.code b.code && (nat_eq a.jt b.jt && (nat_eq a.jf b.jf && nat_eq a.k b.k))

same : (a b : sock_filter) → are_equal a b ≡ true → a ≡ b
same a b is =
    let code : a.code ≡ b.code = grind (arith, nat_tests, is) in
    let jt : a.jt ≡ b.jt = grind (arith, nat_tests, is) in
    let jf : a.jf ≡ b.jf = grind (arith, nat_tests, is) in
    let k : a.k ≡ b.k = grind (arith, nat_tests, is) in
    ap (λ n. instruction n a.jt a.jf a.k) code ∙ ap (λ n. instruction b.code n a.jf a.k) jt ∙ ap (λ n. instruction b.code b.jt n a.k) jf
    ∙ ap (λ n. instruction b.code b.jt b.jf n) k

itself : (a : sock_filter) → are_equal a a ≡ true
itself a = grind (arith, nat_tests)

pub returns : goal.returns
returns c =
    let decides = slice_eq-Decides (λ a b. (same a b, λ is. subst (λ x. are_equal a x ≡ true) is (itself a))) c.args.new.now c.args.old.now
    c.eq.result c.eq.ensures in
    decides.0
