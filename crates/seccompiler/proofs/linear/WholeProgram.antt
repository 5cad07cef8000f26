-- For `SeccompFilter::write`: what the program of a filter is and does.
use Rattle.std.proofs.Common.{◌≡◌, ℕ, ◌+◌, ◌<◌, ◌≤◌, List, [], ◌∷◌, ◌++◌, length, None, refl, sym, ap, ◌∙◌, subst, arith, length-append}
use Rattle.std.proofs.Common.{inl, inr, ⊎_elim, ℤ, Vec, Global}
use Rattle.std.proofs.lemmas.List.{length-map}
use Rattle.seccompiler.specs.declared.bpf.sock_filter.{sock_filter}
use Rattle.seccompiler.specs.Machine.{IsRecord, word_at, Goes, Ends, greatest_length}
use Rattle.seccompiler.specs.Code.{load, give, jump_equal}
use Rattle.seccompiler.specs.Architecture.{audit_word}
use Rattle.seccompiler.specs.Policy.{word_of, Rule, Chain, Filter, chains_of, chain_under, IsDecision, ChainMatches, policy_matches}
use Rattle.seccompiler.specs.Policy.{policy_differs}
use Rattle.seccompiler.specs.Layout.{chains_length, counted_length_of, counted_length, chains_steps, passing_steps}
use Rattle.seccompiler.specs.ChainCode.{ReturnsAfter, Dispatches, in_chain, no_chain, IsChainsCode}
use Rattle.seccompiler.specs.Compiled.{IsCompiled}
use Rattle.seccompiler.proofs.Runs.{goes_front}
use Rattle.seccompiler.proofs.Closed.{ranges_join, ranges_from}
use Rattle.seccompiler.proofs.Words.{word_fits}
use Rattle.seccompiler.proofs.Blocks.{block_join, block_give, front_returns, back_returns, gives}
use Rattle.seccompiler.proofs.linear.Guarded.{action_word_fits, ends_after, decided_at, checked_of, Answered, guard, head, guard_ranges}
use Rattle.seccompiler.proofs.linear.Guarded.{guard_block, guarded, decides, returns_behind_head, head_decides, head_checked, Written}

-- the counted length of chains that are there
counted_some : (chains : List (ℤ × Chain)) → 0 < length chains → counted_length_of chains ≡ 5 + chains_length chains
counted_some chains some = grind arith

module _ (f : Filter) where
  abbrev mismatch_word : ℕ
  mismatch_word = word_of f.mismatch_action

  abbrev match_word : ℕ
  match_word = word_of f.match_action

  abbrev last : List sock_filter
  last = give mismatch_word ∷ []

  -- the word of a call whose number has no chain
  unnamed : (r : List ℕ) → chain_under f.chains (word_at r 0) ≡ None → word_at r 4 ≡ audit_word f.target_arch → IsDecision f r mismatch_word
  unnamed r none same = policy_differs same (λ m. let found = sym m.there ∙ none in absurd (cc)) refl

  -- the program of a filter without chains
  empty_program : f.chains ≡ [] → IsCompiled f (guard f ++ last)
  empty_program none = let p = guard f ++ last in
      record {
        long = sym (ap counted_length_of none);
        checked = checked_of (guard f) mismatch_word
            (ranges_join (guard f) last (guard_ranges f) (ranges_from last (omega (arith, action_word_fits f.mismatch_action))))
            (block_join (guard f) last 3 0 3 (guard_block f) (block_give mismatch_word 0) (omega arith) (omega arith)) (omega arith);
        decides = λ r rec. decides f last r rec
            (λ same g. decided_at f p r 2 mismatch_word
            (back_returns (guard f) last r 0 (word_at r 4) 2 0 mismatch_word g (gives mismatch_word [] r (word_at r 4)))
            (unnamed r (ap (λ chains. chain_under chains (word_at r 0)) none) same));
        passes = record { passes = λ some r rec same there. absurd (some none) };
      }

  -- a number that leaves the chains comes to the return behind them
  passed : (chains : List sock_filter) (r : List ℕ) (a n : ℕ) → Goes chains r 0 a n (length chains) a
      → ReturnsAfter (chains ++ last) r 0 a n mismatch_word
  passed chains r a n g = let z : n ≡ n + 0 = omega arith in
      rw z (back_returns chains last r a a n 0 mismatch_word (goes_front chains last r g) (gives mismatch_word [] r a))

  -- what the chains and the return behind them answer
  dispatched : (chains : List sock_filter) (r : List ℕ) → Dispatches f.chains mismatch_word match_word chains r (word_at r 0)
      → Answered f (chains ++ last) r
  dispatched chains r (in_chain chain there (inl (matches, h))) = record {
    word = match_word;
    count = h.0;
    decision = λ same. policy_matches same record { chain = chain; there = there; matches = matches } refl;
    returns = front_returns chains last r 0 (word_at r 0) h.0 match_word h.1;
  }
  dispatched chains r (in_chain chain there (inr (differs, h))) = record {
    word = mismatch_word;
    count = h.0;
    decision = λ same. policy_differs same
        (λ m. let found = sym m.there ∙ there in let one : m.chain ≡ chain = cc in differs (subst (λ x. ChainMatches x r) one m.matches))
        refl;
    returns = front_returns chains last r 0 (word_at r 0) h.0 mismatch_word h.1;
  }
  dispatched chains r (no_chain none g) = record {
    word = mismatch_word;
    count = chains_steps f.chains;
    decision = unnamed r none;
    returns = passed chains r (word_at r 0) (chains_steps f.chains) g;
  }

  -- a record of this architecture whose number has no chain
  passes : (chains : List sock_filter) (r : List ℕ) → IsRecord r → word_at r 4 ≡ audit_word f.target_arch
      → chain_under f.chains (word_at r 0) ≡ None → Dispatches f.chains mismatch_word match_word chains r (word_at r 0)
      → Ends (head f ++ (chains ++ last)) r (passing_steps f) mismatch_word
  passes chains r rec same none (in_chain chain there returns) = let found = sym there ∙ none in absurd (cc)
  passes chains r rec same none (no_chain there g) = let p = head f ++ (chains ++ last) in
      let n = chains_steps f.chains in let steps : 3 + n + 1 ≡ passing_steps f = omega arith in
      subst (λ k. Ends p r k mismatch_word) steps (ends_after p r (3 + n) mismatch_word
      (⊎_elim
      (λ t. returns_behind_head f (chains ++ last) r n mismatch_word rec t.1 (passed chains r (word_at r 0) n g))
      (λ t. absurd (t.0 same))
      (guarded f (load 0 ∷ (chains ++ last)) r rec)))

  full_program : (chains : List sock_filter) → 0 < length f.chains → counted_length f ≤ greatest_length
      → IsChainsCode f.chains mismatch_word match_word chains → IsCompiled f (head f ++ (chains ++ last))
  full_program chains some short h = let sized = counted_some f.chains some in
      let len : length (chains ++ last) ≡ length chains + 1 = length-append chains last in
      record {
        long = omega (arith, length-append (head f) (chains ++ last), len, h.long);
        checked = head_checked f chains mismatch_word
            (ranges_join chains last h.ranges (ranges_from last (omega (arith, action_word_fits f.mismatch_action))))
            (block_join chains last (length chains) 0 (length chains) h.block (block_give mismatch_word 0) (omega arith) (omega arith))
            (omega (arith, len, h.long));
        decides = λ r rec.
            head_decides f (chains ++ last) r rec (dispatched chains r (h.dispatches r rec (word_at r 0) (word_fits r 0 rec)));
        passes = record {
          passes = λ some r rec same none. passes chains r rec same none (h.dispatches r rec (word_at r 0) (word_fits r 0 rec));
        };
      }

-- the program of a filter with chains, as it was written
pub written_full : (f : Filter) (entries : List (ℤ × Vec Rule Global)) (mismatch matched : ℕ) (chains p : List sock_filter)
    → Written f entries mismatch matched → 0 < length entries → counted_length f ≤ greatest_length
    → IsChainsCode (chains_of entries) mismatch matched chains
    → p ≡ load 4 ∷ jump_equal (audit_word f.target_arch) 1 0 ∷ give 0x80000000 ∷ load 0 ∷ (chains ++ give mismatch ∷ []) → IsCompiled f p
written_full f entries mismatch matched chains p w some short code e =
    let mapped = length-map {B = ℤ × Chain} entries (λ (x : ℤ × Vec Rule Global). (x.0, x.1.items)) in
    let some_chains : 0 < length f.chains = omega (arith, ap length w.chains, mapped) in
    let own = rw (w.mismatch_is, w.matched_is, w.chains) at code in rw (e, w.mismatch_is) (full_program f chains some_chains short own)

-- the program of a filter without chains, as it was written
pub written_empty : (f : Filter) (entries : List (ℤ × Vec Rule Global)) (mismatch matched : ℕ) (p : List sock_filter)
    → Written f entries mismatch matched → length entries ≡ 0
    → p ≡ load 4 ∷ jump_equal (audit_word f.target_arch) 1 0 ∷ give 0x80000000 ∷ give mismatch ∷ [] → IsCompiled f p
written_empty f [] mismatch matched p w none e = rw (e, w.mismatch_is) (empty_program f (sym w.chains))
written_empty f (x ∷ entries) mismatch matched p w none e = absurd (omega arith)
