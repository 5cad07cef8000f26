-- For `write_chains`: what the code of all chains of a filter does, one behind the other.
use Rattle.std.proofs.Common.{◌≡◌, ℕ, ℤ, pos, ◌+◌, ◌<◌, ◌≤◌, ◌^◌, List, [], ◌∷◌, ◌++◌, length, Some, refl, sym, ap, ◌∙◌, subst, arith}
use Rattle.std.proofs.Common.{length-append, inl, inr, ⊎_elim, Vec}
use Rattle.std.proofs.lemmas.List.{map-append}
use Rattle.std.proofs.lemmas.List.Sums.{sum_by_push, sum_by-append, sum_by-cons}
use Rattle.std.proofs.lemmas.Bool.{cases_eq}
use Rattle.std.specs.declared.alloc.Global.{Global}
use Rattle.seccompiler.specs.declared.bpf.sock_filter.{sock_filter}
use Rattle.seccompiler.specs.Machine.{IsRecord, Goes, stays}
use Rattle.seccompiler.specs.Policy.{Rule, Chain, chains_of, chain_under}
use Rattle.seccompiler.specs.Layout.{chain_length, chains_length, chain_steps}
use Rattle.seccompiler.specs.ChainCode.{Returns, IsChainCode, Dispatches, in_chain, no_chain, IsChainsCode}
use Rattle.seccompiler.proofs.Runs.{goes_shift, goes_on, goes_front, stands_second, goes_as}
use Rattle.seccompiler.proofs.Closed.{ranges_join, ranges_from}
use Rattle.seccompiler.proofs.Blocks.{returns_front, back_returns, block_join}
use Rattle.seccompiler.proofs.FoundChains.{Entry, found_before, last_same, last_other, MapEntry}

pub chains_empty : (mismatch matched : ℕ) → IsChainsCode [] mismatch matched []
chains_empty mismatch matched = record {
  long = refl;
  ranges = ranges_from [] tt;
  block = record { each = λ k i e. cc };
  dispatches = λ r rec a small. no_chain refl stays;
}

-- past the code so far, and then a return
after_chains : (code own : List sock_filter) (r : List ℕ) (a k w : ℕ) → Goes code r 0 a k (length code) a
    → Returns own r 0 a w → Returns (code ++ own) r 0 a w
after_chains code own r a k w g x = (k + x.0, back_returns code own r a a k x.0 w (goes_front code own r g) x.1)

-- past the code so far, and then past one more
past_chains : (code own : List sock_filter) (r : List ℕ) (a k m : ℕ) → Goes code r 0 a k (length code) a
    → Goes own r 0 a m (length own) a → Goes (code ++ own) r 0 a (k + m) (length (code ++ own)) a
past_chains code own r a k m g h = let p = code ++ own in
    let second = goes_as p r {x' = length code} (goes_shift p own r (length code) (stands_second code own) h) (omega arith) refl refl in
    goes_as p r (goes_on p r (goes_front code own r g) second) refl refl (sym (length-append code own))

-- what one chain more does with a call number
dispatches_more : (chains : List Entry) (mismatch matched n : ℕ) (chain : Chain) (code own : List sock_filter)
    → IsChainCode n chain mismatch matched own → (r : List ℕ) → IsRecord r → (a : ℕ) → a < 2 ^ 32
    → Dispatches chains mismatch matched code r a → Dispatches (chains ++ (pos n, chain) ∷ []) mismatch matched (code ++ own) r a
dispatches_more chains mismatch matched n chain code own one r rec a small (in_chain found there (inl t)) =
    in_chain found (found_before chains (pos n, chain) a found there) (inl (t.0, returns_front code own r 0 a matched t.1))
dispatches_more chains mismatch matched n chain code own one r rec a small (in_chain found there (inr t)) =
    in_chain found (found_before chains (pos n, chain) a found there) (inr (t.0, returns_front code own r 0 a mismatch t.1))
dispatches_more chains mismatch matched n chain code own one r rec a small (no_chain none g) = ⊎_elim (λ same.
    let there : chain_under (chains ++ (pos n, chain) ∷ []) a ≡ Some chain =
    subst (λ k. chain_under (chains ++ (pos k, chain) ∷ []) a ≡ Some chain) same (last_same chains a chain none) in
    in_chain chain there (⊎_elim
    (λ t. inl (t.0, after_chains code own r a _ matched g (subst (λ k. Returns own r 0 k matched) (sym same) t.1)))
    (λ t. inr (t.0, after_chains code own r a _ mismatch g (subst (λ k. Returns own r 0 k mismatch) (sym same) t.1))) (one.enters r rec)))
    (λ differs.
    let steps = sym (sum_by_push (λ (e : Entry). chain_steps e.1) chains (pos n, chain)) in
    no_chain (last_other chains a n chain differs none)
    (subst (λ k. Goes (code ++ own) r 0 a k (length (code ++ own)) a) steps
    (past_chains code own r a _ _ g (one.passes r a small differs))))
    (cases_eq a n)

-- one chain more
chains_more : (chains : List Entry) (mismatch matched n : ℕ) (chain : Chain) (code own : List sock_filter)
    → IsChainCode n chain mismatch matched own → IsChainsCode chains mismatch matched code
    → IsChainsCode (chains ++ (pos n, chain) ∷ []) mismatch matched (code ++ own)
chains_more chains mismatch matched n chain code own one h =
    let len : length (code ++ own) ≡ length code + length own = length-append code own in
    record {
      long = omega (arith, h.long, one.long, sum_by_push (λ (e : Entry). chain_length e.1) chains (pos n, chain));
      ranges = ranges_join code own h.ranges one.ranges;
      block = block_join code own (length code) (length own) (length (code ++ own)) h.block one.block (omega arith) (omega arith);
      dispatches = λ r rec a small. dispatches_more chains mismatch matched n chain code own one r rec a small (h.dispatches r rec a small);
    }

-- a step of the loop over the entries of the map
pub chains_step : (done : List MapEntry) (mismatch matched n : ℕ) (k : ℤ) (chain : Vec Rule Global) (items : Chain)
    (code own code' : List sock_filter) → k ≡ pos n → items ≡ chain.items → IsChainCode n items mismatch matched own
    → code' ≡ code ++ own → IsChainsCode (chains_of done) mismatch matched code
    → IsChainsCode (chains_of (done ++ (k, chain) ∷ [])) mismatch matched code'
chains_step done mismatch matched n k chain items code own code' ek ei one ec h =
    rw (map-append {B = Entry} (λ (e : MapEntry). (e.0, e.1.items)) done ((k, chain) ∷ []), ek, ec)
    (chains_more (chains_of done) mismatch matched n chain.items code own (rw ei at one) h)

-- there is room for the chain of an entry that is left
pub chains_room : (entries done rest t : List MapEntry) (e : MapEntry) (start : ℕ) → rest ≡ e ∷ t → done ++ rest ≡ entries
    → start ≡ chains_length (chains_of done) → start + chain_length e.1.items ≤ chains_length (chains_of entries)
chains_room entries done rest t e start er ee es = let f = λ (x : Entry). chain_length x.1 in
    let same : entries ≡ done ++ e ∷ t = sym ee ∙ ap (λ l. done ++ l) er in
    let mapped : chains_of entries ≡ chains_of done ++ (e.0, e.1.items) ∷ chains_of t =
    ap chains_of same ∙ map-append (λ (x : MapEntry). (x.0, x.1.items)) done (e ∷ t) in
    let parts = sum_by-append f (chains_of done) ((e.0, e.1.items) ∷ chains_of t) in
    omega (arith, ap chains_length mapped, parts, sum_by-cons f (e.0, e.1.items) (chains_of t))
