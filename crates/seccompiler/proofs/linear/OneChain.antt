-- For `write_chain`: what the code of one chain does: a test of the call number, the rules, and a return.
use Rattle.std.proofs.Common.{◌≡◌, ◌≢◌, ℕ, ◌+◌, ◌<◌, ◌^◌, List, [], ◌∷◌, ◌++◌, length, Some, refl, sym, ap, ◌∙◌, arith, length-append, inl}
use Rattle.std.proofs.Common.{inr, ⊎_elim}
use Rattle.std.specs.Prelude.{slice_get}
use Rattle.seccompiler.specs.declared.bpf.sock_filter.{sock_filter}
use Rattle.seccompiler.specs.Code.{give, jump, jump_equal}
use Rattle.seccompiler.specs.Machine.{Step, stays, then_step, is_equal, is_not_equal}
use Rattle.seccompiler.specs.Pieces.{inside_jump, inside_equal, Leads}
use Rattle.seccompiler.specs.Policy.{Rule, Chain}
use Rattle.seccompiler.specs.ChainCode.{IsRulesCode, IsChainCode}
use Rattle.seccompiler.proofs.Runs.{goes_shift, goes_on, goes_front, leads_front, stands_second, goes_as}
use Rattle.seccompiler.proofs.Closed.{ranges_join, ranges_from}
use Rattle.seccompiler.proofs.Steps.{on_jump}
use Rattle.seccompiler.proofs.Blocks.{returns_front, returns_back, gives, block_join, block_give, block_from}

-- the test of the call number goes on with this number, and skips one instruction with another
on_number : (p : List sock_filter) (r : List ℕ) (n : ℕ) → slice_get p 0 ≡ Some (jump_equal n 0 1) → n < 2 ^ 32 → Step p r 0 n 1 n
on_number p r n here small = grind (arith, is_equal)

on_others : (p : List sock_filter) (r : List ℕ) (n a : ℕ) → slice_get p 0 ≡ Some (jump_equal n 0 1) → a < 2 ^ 32 → a ≢ n → Step p r 0 a 2 a
on_others p r n a here small differs = grind (arith, is_not_equal)

module _ (n mismatch matched : ℕ) (fits : n < 2 ^ 32) (fits_mismatch : mismatch < 2 ^ 32) (fits_matched : matched < 2 ^ 32) where
  -- a chain without rules
  empty_chain : IsChainCode n [] mismatch matched (jump_equal n 0 1 ∷ jump 1 ∷ jump 2 ∷ give matched ∷ give mismatch ∷ [])
  empty_chain = let p = jump_equal n 0 1 ∷ jump 1 ∷ jump 2 ∷ give matched ∷ give mismatch ∷ [] in
      record {
        long = refl;
        ranges = ranges_from p (omega arith);
        block = block_from p 5 (grind (arith, inside_equal, inside_jump));
        enters = λ r rec. inl (
          inl refl,
          returns_back (jump_equal n 0 1 ∷ jump 1 ∷ jump 2 ∷ []) (give matched ∷ give mismatch ∷ []) r n matched
              record {
                count = 2;
                accumulator = n;
                goes = then_step (then_step stays (on_number p r n refl fits)) (on_jump p r 1 n 1 refl fits);
              }
              (0, gives matched (give mismatch ∷ []) r n),
        );
        passes = λ r a small differs. then_step (then_step stays (on_others p r n a refl small differs)) (on_jump p r 2 a 2 refl small);
      }

  -- a chain with rules
  full_chain : (q : Rule) (chain : Chain) (rules : List sock_filter)
      → IsRulesCode (q ∷ chain) matched rules → IsChainCode n (q ∷ chain) mismatch matched
      (jump_equal n 0 1 ∷ (rules ++ give mismatch ∷ []))
  unfolding leads_front
  full_chain q chain rules h = let head = jump_equal n 0 1 ∷ [] in
      let last = give mismatch ∷ [] in let both = rules ++ last in let p = head ++ both in
      let len_both : length both ≡ length rules + 1 = length-append rules last in
      let len : length p ≡ 1 + (length rules + 1) = length-append head both ∙ ap (λ x. 1 + x) len_both in
      record {
        long = omega (arith, h.long);
        ranges = ranges_join head both (ranges_from head (omega arith)) (ranges_join rules last h.ranges (ranges_from last (omega arith)));
        block = block_join head both 2 (length rules + 1) (length p) (block_from head 2 (grind (arith, inside_equal)))
            (block_join rules last (length rules + 1) 1 (length rules + 1) h.block (block_give mismatch 1) (omega arith) (omega arith))
            (omega (arith, len)) (omega (arith, len));
        enters = λ r rec.
            let g : Leads p r 0 n 1 = record { count = 1; accumulator = n; goes = then_step stays (on_number p r n refl fits) } in
            ⊎_elim (λ t. inl (inr t.0, returns_back head both r n matched g (returns_front rules last r 0 n matched t.1)))
            (λ t. inr (
              λ m. ⊎_elim (λ none. absurd (cc)) t.0 m,
              returns_back head both r n mismatch g
                  (returns_back rules last r n mismatch (leads_front rules last r 0 n (length rules) t.1) (0, gives mismatch [] r _)),
            ))
            (h.enters r rec n fits);
        passes = λ r a small differs.
            let g = goes_shift p both r 1 (stands_second head both) (goes_front rules last r (h.skips r a small)) in
            goes_as p r (goes_on p r (then_step stays (on_others p r n a refl small differs)) g) refl refl (sym len);
      }

  -- the same of a chain of which it is known whether it has rules
  pub chain_without : (chain : Chain) (code : List sock_filter) → length chain ≡ 0
      → code ≡ jump_equal n 0 1 ∷ jump 1 ∷ jump 2 ∷ give matched ∷ give mismatch ∷ [] → IsChainCode n chain mismatch matched code
  chain_without [] code none e = rw e empty_chain
  chain_without (q ∷ chain) code none e = absurd (omega arith)

  pub chain_with : (chain : Chain) (rules code : List sock_filter) → 0 < length chain → IsRulesCode chain matched rules
      → code ≡ jump_equal n 0 1 ∷ (rules ++ give mismatch ∷ []) → IsChainCode n chain mismatch matched code
  chain_with [] rules code some h e = absurd (omega arith)
  chain_with (q ∷ chain) rules code some h e = rw e (full_chain q chain rules h)
