-- For `sets` and `tasks`: sets of records, and what is known of two programs on them.
use Rattle.std.proofs.Common.{◌≡◌, ℕ, ◌+◌, ◌*◌, ◌<◌, List, length, Some, sym, ap, ◌∙◌, subst, arith, ◌⊎◌, inl, inr, ⊎_elim, ◌^◌}
use Rattle.std.specs.Prelude.{slice_get, slice_set, bit_and}
use Rattle.std.specs.Int.Bits.{and_zero_r}
use Rattle.std.proofs.Math.ListN.{get_or}
use Rattle.std.proofs.lemmas.Bool.{cases_eq}
use Rattle.std.proofs.lemmas.List.{get_or-set_same, get_or-set_other, length-set}
use Rattle.std.proofs.lemmas.Option.{slice_get_within, slice_get-get_or, get_or_from_slice_get}
use Rattle.seccompiler.specs.declared.bpf.sock_filter.{sock_filter}
use Rattle.seccompiler.specs.Machine.{IsRecord, word_at}
use Rattle.seccomp_compare.specs.Machine.{EndsFrom, Ends, returns}
use Rattle.seccomp_compare.specs.declared.follow.At.{At}
use Rattle.seccomp_compare.specs.declared.Relation.{Relation}
use Rattle.seccomp_compare.specs.Compare.{Related, AnswersRelated, AnswersUnrelated, ComesTo}
use Rattle.seccomp_compare.proofs.Words.{word_fits}
use Rattle.seccomp_compare.specs.declared.values.Values.{Values}
use Rattle.seccomp_compare.specs.WordSets.{HasValue, IsTight}
use Rattle.seccomp_compare.specs.RecordSets.{IsIn, AreTight, Reaches, accumulator}

-- what is in a list after a write: the new value at its place, the old ones elsewhere
pub set_found : (part : List Values) (w : ℕ) (v : Values) (j : ℕ) (s : Values) → slice_get (slice_set part w v) j ≡ Some s
    → ((j ≡ w) × (v ≡ s)) ⊎ (slice_get part j ≡ Some s)
set_found part w v j s found =
    let long = length-set part w v in
    let behind = slice_get_within (slice_set part w v) j s found in
    let within : j < length part = omega (arith, long, behind) in
    let is = get_or_from_slice_get (slice_set part w v) j s s found in
    ⊎_elim
    (λ same.
    let at : w < length part = omega arith in
    inl (same, sym (get_or-set_same part w v s at) ∙ ap (λ n. get_or (slice_set part w v) n s) (sym same) ∙ is))
    (λ other. inr (slice_get-get_or part j s within ∙ ap (λ t. Some t) (sym (get_or-set_other part w j v s other) ∙ is)))
    (cases_eq j w)

-- what stood there before is in the new list or is written over
pub set_kept : (part : List Values) (w : ℕ) (v : Values) (j : ℕ) (s : Values) → slice_get part j ≡ Some s
    → ((j ≡ w) × (slice_get (slice_set part w v) j ≡ Some v)) ⊎ (slice_get (slice_set part w v) j ≡ Some s)
set_kept part w v j s found =
    let long = length-set part w v in
    let within = slice_get_within part j s found in
    let in_new : j < length (slice_set part w v) = omega (arith, long, within) in
    let is = get_or_from_slice_get part j s s found in
    ⊎_elim
    (λ same.
    let at : w < length part = omega (arith, same, within) in
    inl (
      same,
      slice_get-get_or (slice_set part w v) j v in_new ∙ ap (λ t. Some t)
          (ap (λ n. get_or (slice_set part w v) n v) same ∙ get_or-set_same part w v v at),
    ))
    (λ other. inr (slice_get-get_or (slice_set part w v) j s in_new ∙ ap (λ t. Some t) (get_or-set_other part w j v s other ∙ is)))
    (cases_eq j w)

-- what was written is there
pub set_here : (part : List Values) (w : ℕ) (v : Values) → w < length part → slice_get (slice_set part w v) w ≡ Some v
set_here part w v within =
    let long = length-set part w v in
    let in_new : w < length (slice_set part w v) = omega (arith, long, within) in
    slice_get-get_or (slice_set part w v) w v in_new ∙ ap (λ t. Some t) (get_or-set_same part w v v within)

-- the other words of a record of a narrowed set are as the set has them
pub other_word : (part : List Values) (w : ℕ) (v : Values) (r : List ℕ) (j : ℕ) (s : Values) → IsIn (slice_set part w v) r
    → (j ≡ w → ⊥) → slice_get part j ≡ Some s → HasValue s (word_at r (4 * j))
other_word part w v r j s inside other found =
    ⊎_elim
    (λ new. absurd (other new.0))
    (λ old. inside.each j s old)
    (set_kept part w v j s found)

-- a record lies in a set of which one word is narrowed, if that word is one of the new ones
pub in_narrowed : (part : List Values) (w : ℕ) (v : Values) (r : List ℕ) → IsIn part r → HasValue v (word_at r (4 * w))
    → IsIn (slice_set part w v) r
in_narrowed part w v r inside has = record {
  each = λ j s found.
      ⊎_elim
      (λ new. subst (λ n. HasValue s (word_at r (4 * n))) (sym new.0) (subst (λ t. HasValue t (word_at r (4 * w))) new.1 has))
      (λ old. inside.each j s old)
      (set_found part w v j s found);
}

-- a record of the narrowed set lies in the set, if the new words are among the old ones
pub from_narrowed : (part : List Values) (w : ℕ) (v : Values) (r : List ℕ) → IsRecord r
    → ((x : ℕ) → x < 2 ^ 32 → HasValue v x → (s : Values) → slice_get part w ≡ Some s → HasValue s x) → IsIn (slice_set part w v) r
    → IsIn part r
from_narrowed part w v r rec among inside = record {
  each = λ j s found.
      ⊎_elim
      (λ new. among (word_at r (4 * j)) (word_fits r (4 * j) rec) (inside.each j v new.1) s
      (subst (λ n. slice_get part n ≡ Some s) new.0 found))
      (λ old. inside.each j s old)
      (set_kept part w v j s found);
}

-- a narrowed set is tight
pub tight_narrowed : (part : List Values) (w : ℕ) (v : Values) → AreTight part → IsTight v → AreTight (slice_set part w v)
tight_narrowed part w v tight new_tight = record {
  each = λ j s found.
      ⊎_elim
      (λ new. subst IsTight new.1 new_tight)
      (λ old. tight.each j s old)
      (set_found part w v j s found);
}

-- if a program comes to a return, its run ends
pub ends_at : (p : List sock_filter) (r : List ℕ) (at : At) (i : sock_filter) (before : Reaches p r at) → slice_get p at.place ≡ Some i
    → i.code ≡ 0x06 → Ends p r (before.steps + 1) i.k
ends_at p r at i before here code = before.ends 1 i.k (returns i here code)

-- two programs that come to returns of related words answer so
pub related_at : (relation : Relation) (p q : List sock_filter) (r : List ℕ) (p_at q_at : At) (i j : sock_filter) → Reaches p r p_at
    → Reaches q r q_at
    → slice_get p p_at.place ≡ Some i → slice_get q q_at.place ≡ Some j → i.code ≡ 0x06 → j.code ≡ 0x06
    → Related relation i.k j.k → AnswersRelated relation p q r
related_at relation p q r p_at q_at i j to_p to_q here_p here_q returns_p returns_q related = record {
  word = i.k;
  steps = _;
  ends = ends_at p r p_at i to_p here_p returns_p;
  other_word = j.k;
  other_steps = _;
  other_ends = ends_at q r q_at j to_q here_q returns_q;
  related = related;
}

-- two programs that come to returns of words that aren't related answer so
pub unrelated_at : (relation : Relation) (p q : List sock_filter) (r : List ℕ) (p_at q_at : At) (i j : sock_filter) → Reaches p r p_at
    → Reaches q r q_at
    → slice_get p p_at.place ≡ Some i → slice_get q q_at.place ≡ Some j → i.code ≡ 0x06 → j.code ≡ 0x06
    → (Related relation i.k j.k → ⊥) → AnswersUnrelated relation p q r
unrelated_at relation p q r p_at q_at i j to_p to_q here_p here_q returns_p returns_q unrelated = record {
  word = i.k;
  steps = _;
  ends = ends_at p r p_at i to_p here_p returns_p;
  other_word = j.k;
  other_steps = _;
  other_ends = ends_at q r q_at j to_q here_q returns_q;
  unrelated = unrelated;
}

-- where a run comes to, by its place
pub comes_to : (p : List sock_filter) (r : List ℕ) (at : At) → at.place < length p → Reaches p r at → ComesTo p r at.place
comes_to p r at within to = record { within = within; accumulator = accumulator r at; steps = to.steps; ends = to.ends }

-- each run comes to its start
pub reaches_start : (p : List sock_filter) (r : List ℕ) → Reaches p r (record { place = 0; word = 0; mask = 0 })
reaches_start p r = record {
  steps = 0;
  ends = λ n w e.
      let none : bit_and (word_at r (4 * 0)) 0 ≡ 0 = and_zero_r _ in
      let same : n ≡ 0 + n = omega arith in
      subst (λ m. Ends p r m w) same (subst (λ a. EndsFrom p r 0 a n w) none e);
}
