-- For `SeccompFilter::write`: the guard in front of a filter's program, and what the program is and does with code behind
-- the guard that answers each call number.
use Rattle.std.proofs.Common.{◌≡◌, ◌≢◌, ℕ, ◌+◌, ◌<◌, ◌≤◌, ◌^◌, List, [], ◌∷◌, ◌++◌, length, refl, arith, length-append, ◌⊎◌, inl, inr}
use Rattle.std.proofs.Common.{⊎_elim, ℤ, Vec, Global}
use Rattle.std.proofs.lemmas.Option.{slice_get_within}
use Rattle.seccompiler.specs.declared.bpf.sock_filter.{sock_filter}
use Rattle.seccompiler.specs.declared.backend.SeccompAction.{SeccompAction}
use Rattle.seccompiler.specs.declared.backend.TargetArch.{TargetArch}
use Rattle.seccompiler.specs.Machine.{IsRecord, word_at, Goes, stays, then_step, Ends, greatest_length, IsFine, fine_load, fine_mask}
use Rattle.seccompiler.specs.Machine.{fine_jump, fine_equal, fine_greater, fine_at_least, fine_return, IsChecked, AreInRange}
use Rattle.seccompiler.specs.Code.{load, give, guard_code}
use Rattle.seccompiler.specs.Pieces.{IsInside, inside_load, inside_equal}
use Rattle.seccompiler.specs.Architecture.{audit_word}
use Rattle.seccompiler.specs.Policy.{word_of, Rule, Filter, chains_of, IsDecision, other_architecture}
use Rattle.seccompiler.specs.ChainCode.{ReturnsAfter, IsBlock}
use Rattle.seccompiler.specs.Compiled.{EndsAtDecision}
use Rattle.seccompiler.proofs.Runs.{goes_far, get_behind}
use Rattle.seccompiler.proofs.Closed.{ranges_join, ranges_from}
use Rattle.seccompiler.proofs.Words.{word_fits}
use Rattle.seccompiler.proofs.Steps.{on_load, on_equal}
use Rattle.seccompiler.proofs.Blocks.{block_join, block_from, back_returns}

-- the word of an action has 32 bits; the second clause stands for every other one
pub action_word_fits : (a : SeccompAction) → word_of a < 2 ^ 32
action_word_fits a = grind arith

-- so has the word of an architecture
pub audit_word_fits : (arch : TargetArch) → audit_word arch < 2 ^ 32
audit_word_fits arch = grind arith

-- a counted run from the start that returns ends
pub ends_after : (p : List sock_filter) (r : List ℕ) (n w : ℕ) → ReturnsAfter p r 0 0 n w → Ends p r (n + 1) w
ends_after p r n w h = grind arith

-- it does so within as many steps as the program has instructions
pub decided_at : (f : Filter) (p : List sock_filter) (r : List ℕ) (n w : ℕ) → ReturnsAfter p r 0 0 n w → IsDecision f r w
    → EndsAtDecision f p r
decided_at f p r n w h decision = record {
  steps = n + 1;
  word = w;
  ends = ends_after p r n w h;
  few = let far = goes_far p r h.goes in let within = slice_get_within p h.to h.instruction h.here in omega arith;
  decision = decision;
}

-- What code answers a record's call number with: the word that the policy names for it.
pub record Answered (f : Filter) (body : List sock_filter) (r : List ℕ) : Type 0 where
  pub word : ℕ
  pub count : ℕ
  pub decision : word_at r 4 ≡ audit_word f.target_arch → IsDecision f r word
  pub returns : ReturnsAfter body r 0 (word_at r 0) count word

-- an instruction that stays inside a piece may stand in a longer program
fine_inside : (i : sock_filter) (place m n : ℕ) → m < n → IsInside i place m → IsFine i place n
fine_inside i place m n le h = grind (arith, fine_load, fine_mask, fine_jump, fine_equal, fine_greater, fine_at_least)

-- a block whose jumps stay within it, with a return behind it, is a checked program
pub checked_of : (front : List sock_filter) (w : ℕ) → AreInRange (front ++ give w ∷ [])
    → IsBlock (front ++ give w ∷ []) (length front) → length front + 1 ≤ greatest_length → IsChecked (front ++ give w ∷ [])
checked_of front w ranges block short = let p = front ++ give w ∷ [] in
    let len : length p ≡ length front + 1 = length-append front (give w ∷ []) in
    record {
      some = omega arith;
      few = omega arith;
      ranges = ranges;
      each = λ place i here. ⊎_elim (λ inside. fine_inside i place (length front) (length p) (omega arith) inside)
          (λ back. fine_return back) (block.each place i here);
      last = λ i here. grind (arith, get_behind front (give w ∷ []) 0 (give w) refl);
    }

module _ (f : Filter) where
  abbrev arch_word : ℕ
  arch_word = audit_word f.target_arch

  -- the three instructions that answer another architecture, and with them the load of the call number
  abbrev pub guard : List sock_filter
  guard = guard_code arch_word

  abbrev pub head : List sock_filter
  head = guard ++ load 0 ∷ []

  pub guard_ranges : AreInRange guard
  guard_ranges = ranges_from guard (omega (arith, audit_word_fits f.target_arch))

  pub guard_block : IsBlock guard 3
  guard_block = block_from guard 3 (grind (arith, inside_load, inside_equal))

  -- a record of this architecture passes the guard, and another one comes to its return
  pub guarded : (back : List sock_filter) (r : List ℕ) → IsRecord r
      → ((word_at r 4 ≡ arch_word) × Goes (guard ++ back) r 0 0 2 3 (word_at r 4))
      ⊎ ((word_at r 4 ≢ arch_word) × Goes (guard ++ back) r 0 0 2 2 (word_at r 4))
  guarded back r rec = let p = guard ++ back in
      let fits = word_fits r 4 rec in
      let g = then_step stays (on_load p r 0 0 4 (word_at r 4) refl (omega (arith, rec.long)) (omega arith) fits refl) in
      ⊎_elim (λ t. inl (t.0, then_step g t.1)) (λ t. inr (t.0, then_step g t.1)) (on_equal p r 1 (word_at r 4) arch_word 1 0 refl fits)

  -- the program decides a record of another architecture, and so each if it does those of its own
  pub decides : (back : List sock_filter) (r : List ℕ) → IsRecord r
      → (word_at r 4 ≡ arch_word → Goes (guard ++ back) r 0 0 2 3 (word_at r 4) → EndsAtDecision f (guard ++ back) r)
      → EndsAtDecision f (guard ++ back) r
  decides back r rec own = ⊎_elim (λ t. own t.0 t.1)
      (λ t. decided_at f (guard ++ back) r 2 0x80000000
      record { to = 2; accumulator = word_at r 4; instruction = give 0x80000000; goes = t.1; here = refl; returns = refl; value = refl }
      (other_architecture t.0 refl))
      (guarded back r rec)

  -- a return of the code behind the load, which is entered with the call number, is one of the program
  pub returns_behind_head : (body : List sock_filter) (r : List ℕ) (n w : ℕ) → IsRecord r
      → Goes (guard ++ (load 0 ∷ body)) r 0 0 2 3 (word_at r 4) → ReturnsAfter body r 0 (word_at r 0) n w
      → ReturnsAfter (head ++ body) r 0 0 (3 + n) w
  returns_behind_head body r n w rec g h =
      let number = on_load (head ++ body) r 3 (word_at r 4) 0 (word_at r 0) refl (omega (arith, rec.long)) (word_fits r 4 rec)
      (word_fits r 0 rec) refl in
      back_returns head body r 0 (word_at r 0) 3 n w (then_step g number) h

  -- so the program decides as the code answers
  pub head_decides : (body : List sock_filter) (r : List ℕ) → IsRecord r → Answered f body r → EndsAtDecision f (head ++ body) r
  head_decides body r rec x = decides (load 0 ∷ body) r rec
      (λ same g. decided_at f (head ++ body) r (3 + x.count) x.word (returns_behind_head body r x.count x.word rec g x.returns)
      (x.decision same))

  -- and may be run
  pub head_checked : (front : List sock_filter) (w : ℕ) → AreInRange (front ++ give w ∷ []) → IsBlock (front ++ give w ∷ []) (length front)
      → length front + 5 ≤ greatest_length → IsChecked (head ++ (front ++ give w ∷ []))
  head_checked front w ranges block short =
      grind (arith, length-append, block_join, guard_block, block_from, ranges_join, guard_ranges, ranges_from, checked_of)

-- What is known of a filter whose program is written: its words, and its chains as the map holds them.
pub record Written (f : Filter) (entries : List (ℤ × Vec Rule Global)) (mismatch matched : ℕ) : Type 0 where
  pub chains : chains_of entries ≡ f.chains
  pub mismatch_is : mismatch ≡ word_of f.mismatch_action
  pub matched_is : matched ≡ word_of f.match_action

pub words_of : (f : Filter) (entries : List (ℤ × Vec Rule Global)) (mismatch_action match_action : SeccompAction)
    (arch : TargetArch) (mismatch matched : ℕ)
    → record { chains = chains_of entries; mismatch_action = mismatch_action; match_action = match_action; target_arch = arch } ≡ f
    → mismatch ≡ word_of mismatch_action → matched ≡ word_of match_action → Written f entries mismatch matched
words_of f entries mismatch_action match_action arch mismatch matched is first second = grind arith
