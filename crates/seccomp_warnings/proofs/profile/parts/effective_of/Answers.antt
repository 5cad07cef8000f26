use Rattle.std.proofs.Common.{◌≡◌, ◌++◌, ◌∙◌, ◌+◌, List, ap, arith, subst, suc}
use Rattle.seccomp_entries.specs.Entries.{Entry}
use Rattle.seccomp_warnings.specs.ProfileParts.{effective_below}
use Rattle.seccomp_warnings.proofs.profile.parts.effective_of.Goals as goal

pub loop-number-init : goal.loop-number-init
unfolding effective_below
loop-number-init c = c.new-all.ensures.items

pub loop-number-preserved : goal.loop-number-preserved
unfolding effective_below
loop-number-preserved c =
    let l = c.loop-number in
    let es = c.args.entries.now in
    let on : l.number + 1 ≡ suc l.number = omega arith in
    rw on (c.in_ok-append.ensures.items
    ∙ ap (λ (xs : List Entry). xs ++ c.in_ok-own.own.items) l.invariant
    ∙ ap (λ (xs : List Entry). effective_below l.number es ++ xs) c.in_ok-own.ensures)

pub returns : goal.returns
returns c =
    let end : c.loop-number.number ≡ 463 = omega arith in
    subst (λ n. c.loop-number.all.items ≡ effective_below n c.args.entries.now) end c.loop-number.invariant
