-- One program of the first so many, as one more is joined to it.
use Rattle.std.proofs.Common.{◌≡◌, ℕ, ◌+◌, ◌<◌, ◌≤◌, List, [], ◌∷◌, ◌++◌, length, take, get_or, Vec, Global, refl, sym, ap, ◌∙◌}
use Rattle.std.proofs.Common.{subst, arith, length-take}
use Rattle.std.proofs.lemmas.List.{take_more}
use Rattle.seccompiler.specs.declared.bpf.sock_filter.{sock_filter}
use Rattle.seccomp_compare.specs.Machine.{IsChecked}
use Rattle.seccomp_stack.specs.declared.StackError.{StackError}
use Rattle.seccomp_stack.specs.declared.StackError.TheVariants.{TooLong, OutOfMemory}
use Rattle.seccomp_stack.specs.Stack.{IsStack}
use Rattle.seccomp_stack.specs.Joined.{joined, stacked_on, stacked, AreJoined, IsJoinRefusal, IsRefusal}
use Rattle.seccomp_stack.proofs.Decisions.{stack_next}

on_more : (program : List sock_filter) (xs : List (Vec sock_filter Global)) (y : Vec sock_filter Global)
    → stacked_on program (xs ++ y ∷ []) ≡ joined (stacked_on program xs) y.items
on_more program [] y = refl
on_more program (x ∷ xs) y = on_more (joined program x.items) xs y

-- one program more is joined to what the others make
stacked_more : (xs : List (Vec sock_filter Global)) (y : Vec sock_filter Global) → 1 ≤ length xs
    → stacked (xs ++ y ∷ []) ≡ joined (stacked xs) y.items
stacked_more [] y some = absurd (omega arith)
stacked_more (x ∷ xs) y some = on_more x.items xs y

-- the first programs, and one more
pub taken : (programs : List (Vec sock_filter Global)) (count : ℕ) (newer : Vec sock_filter Global) → count < length programs
    → newer ≡ get_or programs count newer → take (count + 1) programs ≡ take count programs ++ newer ∷ []
taken programs count newer within is =
    take_more programs count newer within ∙ ap (λ (x : Vec sock_filter Global). take count programs ++ x ∷ []) (sym is)

module _ (programs : List (Vec sock_filter Global)) (count : ℕ) (newer : Vec sock_filter Global) (within : count < length programs)
    (some : 1 ≤ count) (is : newer ≡ get_or programs count newer) where
  some_taken : 1 ≤ length (take count programs)
  some_taken = omega (arith, length-take count programs)

  -- the program of one more
  pub next_stacked : (program : List sock_filter) → program ≡ stacked (take count programs)
      → joined program newer.items ≡ stacked (take (count + 1) programs)
  next_stacked program so_far =
      ap (λ p. joined p newer.items) so_far ∙ sym (stacked_more (take count programs) newer some_taken)
      ∙ ap stacked (sym (taken programs count newer within is))

  -- it does what they do
  pub next_stack : (program both : List sock_filter) → IsStack (take count programs) program → IsChecked newer.items
      → AreJoined program newer.items both → IsStack (take (count + 1) programs) both
  next_stack program both stack checked are_joined =
      subst (λ (ps : List (Vec sock_filter Global)). IsStack ps both) (sym (taken programs count newer within is))
      (stack_next (take count programs) newer program both some_taken stack checked are_joined)

  -- the error of the next one is that of all
  pub next_refused : (program : List sock_filter) (e : StackError) → program ≡ stacked (take count programs)
      → IsJoinRefusal program newer.items e → IsRefusal programs e
  next_refused program (TooLong n) so_far refused = record {
    count = count + 1;
    within = omega arith;
    long = refused.0 ∙ ap length (next_stacked program so_far);
    unfit = λ checked. refused.1 (subst IsChecked (sym (next_stacked program so_far)) checked);
  }
  next_refused program OutOfMemory so_far refused = tt
