use Rattle.std.proofs.Common.{◌≡◌, ◌∙◌, ℕ, ◌<◌, List, [], ◌∷◌, length, take, get_or, Vec, Global, sym, ap, subst}
use Rattle.std.proofs.Common.{arith, rules}
use Rattle.std.specs.Prelude.{All, Result, IfErr, IsErrAnd, Ok, Err}
use Rattle.std.proofs.lemmas.Bool.Decides.{nat_tests}
use Rattle.std.proofs.lemmas.List.{nil_from_length}
use Rattle.std.proofs.lemmas.List.Elements.{All-get_or}
use Rattle.seccompiler.specs.declared.bpf.sock_filter.{sock_filter}
use Rattle.seccompiler.specs.Code.{give}
use Rattle.seccomp_compare.specs.Machine.{IsChecked}
use Rattle.seccomp_stack.specs.declared.StackError.{StackError}
use Rattle.seccomp_stack.specs.Joined.{joined, stacked, AreJoined, IsJoinRefusal, IsRefusal}
use Rattle.seccomp_stack.proofs.Decisions.{stack_none, stack_first}
use Rattle.seccomp_stack.proofs.Stacked.{next_stacked, next_stack, next_refused}
use Rattle.seccomp_stack.proofs.stack.Goals as goal

-- the error that is passed on
passed_on : {T : Type 0} (r : Result T StackError) (e : StackError) (P : StackError → Type 0) → IsErrAnd r (λ x. x ≡ e) → P e → IfErr r P
passed_on (Ok x) e P is holds = absurd is
passed_on (Err x) e P is holds = subst P (sym is) holds

-- a program of the list may be run
checked_at : (programs : List (Vec sock_filter Global)) (k : ℕ) (p : Vec sock_filter Global) → All (λ q. IsChecked q.items) programs
    → k < length programs → p ≡ get_or programs k p → IsChecked p.items
checked_at programs k p all within is =
    subst (λ (q : Vec sock_filter Global). IsChecked q.items) (sym is)
    (All-get_or (λ (q : Vec sock_filter Global). IsChecked q.items) programs k p within all)

-- the first program alone
first_taken : (programs : List (Vec sock_filter Global)) (p : Vec sock_filter Global) → 0 < length programs → p ≡ get_or programs 0 p
    → take 1 programs ≡ p ∷ []
first_taken [] p some is = absurd (omega arith)
first_taken (q ∷ programs) p some is = ap (λ (x : Vec sock_filter Global). x ∷ []) (sym is)

pub returns-then-is_empty-clause-stack : goal.returns-then-is_empty-clause-stack
returns-then-is_empty-clause-stack c =
    let none = nil_from_length c.args.programs.now (grind (arith, nat_tests)) in
    let items : c.in_ok-vec.field-0.items ≡ give 0x7fff0000 ∷ [] = search rules in
    rw (none, items) stack_none

pub loop-count-init : goal.loop-count-init
loop-count-init c =
    let programs = c.args.programs.now in
    let first = c.index-programs-0.result in
    let some : 0 < length programs = grind (arith, nat_tests) in
    let one = first_taken programs first some c.index-programs-0.is in
    let items : c.in_ok-program.program.items ≡ first.items =
    c.in_ok-program.ensures.items_if_clones_equal (λ x y e. e) ∙ c.as_slice.ensures.value in
    let checked = checked_at programs 0 first c.requires some c.index-programs-0.is in
    record {
      program = items ∙ ap stacked (sym one);
      stack = rw (one, items) (stack_first first checked);
      some = omega arith;
      within = omega arith;
    }

pub returns-in_err-program-2-clause-refused : goal.returns-in_err-program-2-clause-refused
returns-in_err-program-2-clause-refused c =
    let programs = c.args.programs.now in
    let newer = c.index-programs-count.result in
    let e = c.in_err-program-2.field-0.0 in
    let refused : IsJoinRefusal c.loop-count.program.items newer.items e =
    rw (← c.deref.ensures.value, ← c.deref-in-loop-count.ensures.value) c.in_err-program-2.ensures.refused in
    passed_on c.from_residual-in_err-program-2.result e (IsRefusal programs) c.from_residual-in_err-program-2.ensures.1
    (next_refused programs c.loop-count.count newer c.loop-count-test.true c.loop-count.invariant.some c.index-programs-count.is
    c.loop-count.program.items e c.loop-count.invariant.program refused)

pub loop-count-preserved : goal.loop-count-preserved
loop-count-preserved c =
    let programs = c.args.programs.now in
    let count = c.loop-count.count in
    let newer = c.index-programs-count.result in
    let older = c.loop-count.program.items in
    let both = c.in_ok-program-2.program.items in
    let checked = checked_at programs count newer c.requires c.loop-count-test.true c.index-programs-count.is in
    let joined_is : both ≡ joined older newer.items =
    rw (← c.deref.ensures.value, ← c.deref-in-loop-count.ensures.value) c.in_ok-program-2.ensures.joined in
    let are_joined : AreJoined older newer.items both =
    rw (← c.deref.ensures.value, ← c.deref-in-loop-count.ensures.value) c.in_ok-program-2.ensures.are_joined in
    record {
      program = joined_is
          ∙ next_stacked programs count newer c.loop-count-test.true c.loop-count.invariant.some c.index-programs-count.is older
          c.loop-count.invariant.program;
      stack = next_stack programs count newer c.loop-count-test.true c.loop-count.invariant.some c.index-programs-count.is
          older both c.loop-count.invariant.stack checked are_joined;
      some = omega arith;
      within = omega (arith, c.loop-count-test.true);
    }
