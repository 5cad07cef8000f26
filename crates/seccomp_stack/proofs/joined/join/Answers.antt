use Rattle.std.proofs.Common.{◌≡◌, ℕ, ◌+◌, ◌*◌, ◌<◌, ◌≤◌, ◌++◌, [], List, length, take, get_or, arith, ap, refl, sym, ◌∙◌, subst}
use Rattle.std.specs.List.{flat_map}
use Rattle.std.proofs.lemmas.Bool.{false≢true}
use Rattle.std.proofs.lemmas.List.{append-nil, take_more, take_all, flat_map_more}
use Rattle.std.proofs.lemmas.Nat.{mul-lt}
use Rattle.seccompiler.specs.declared.bpf.sock_filter.{sock_filter}
use Rattle.seccomp_compare.specs.Machine.{Ends, IsChecked}
use Rattle.seccomp_stack.specs.Stack.{prevailing}
use Rattle.seccomp_stack.specs.Joined.{words_in, joined, front, copy}
use Rattle.seccomp_stack.proofs.Words.{words_few}
use Rattle.seccomp_stack.proofs.Lengths.{length-joined}
use Rattle.seccomp_stack.proofs.OlderRuns.{joined_runs}
use Rattle.seccomp_stack.proofs.joined.join.Goals as goal

-- another copy, and the copies for one word more
one_more : (newer base items : List sock_filter) (words read : List ℕ) (k : ℕ) (more : List sock_filter) → read ≡ words → k < length read
    → items ≡ base ++ flat_map (copy newer) (take k words) → more ≡ items ++ copy newer (get_or read k 0)
    → more ≡ base ++ flat_map (copy newer) (take (k + 1) words)
one_more newer base items words read k more same within so_far pushed =
    let word = get_or words k 0 in
    let inside : k < length words = omega (arith, ap length same) in
    pushed ∙ ap (λ ws. items ++ copy newer (get_or ws k 0)) same ∙ ap (λ xs. xs ++ copy newer word) so_far
    ∙ flat_map_more (copy newer) base (take k words) word
    ∙ ap (λ ws. base ++ flat_map (copy newer) ws) (sym (take_more words k 0 inside))

-- behind the front are the copies for all words
all_copied : (older newer items : List sock_filter) (read : List ℕ) (k : ℕ) → read ≡ words_in older → length read ≤ k
    → items ≡ front (words_in older) (length newer + 1) older ++ flat_map (copy newer) (take k (words_in older))
    → items ≡ joined older newer
all_copied older newer items read k same end so_far =
    so_far
    ∙ ap (λ ws. front (words_in older) (length newer + 1) older ++ flat_map (copy newer) ws)
    (take_all k (words_in older) (omega (arith, ap length same, end)))

-- the words are as many as instructions, at most
few_words : (older : List sock_filter) → length older ≤ 4096 → length (words_in older) ≤ 4096
few_words older few = omega (arith, words_few [] older)

pub overflow_mul-length : goal.overflow_mul-length
overflow_mul-length c =
    let same = c.in_ok-words.ensures in
    let few = few_words c.args.older.now c.requires.older.few in
    let count : c.len.result ≡ length (words_in c.args.older.now) = search arith in
    let most = mul-lt c.len.result (length c.args.newer.now + 1) 4097 4098 (omega arith) (omega (arith, c.requires.newer.few)) in
    omega arith

pub overflow_add-length : goal.overflow_add-length
overflow_add-length c =
    let same = c.in_ok-words.ensures in
    let few = few_words c.args.older.now c.requires.older.few in
    let count : c.len.result ≡ length (words_in c.args.older.now) = search arith in
    let most = mul-lt c.len.result (length c.args.newer.now + 1) 4097 4098 (omega arith) (omega (arith, c.requires.newer.few)) in
    omega (arith, c.requires.older.few)

pub returns-then-length-gt-BPF_MAX_LEN-clause-refused : goal.returns-then-length-gt-BPF_MAX_LEN-clause-refused
returns-then-length-gt-BPF_MAX_LEN-clause-refused c =
    let same = c.in_ok-words.ensures in
    let count : c.len.result ≡ length (words_in c.args.older.now) = search arith in
    let long =
    ap (λ n. length c.args.older.now + n * (length c.args.newer.now + 1)) count ∙ sym (length-joined c.args.older.now c.args.newer.now) in
    (long, λ checked. omega (arith, checked.few, long, c.if-length-gt-BPF_MAX_LEN.true))

pub loop-word-init : goal.loop-word-init
loop-word-init c =
    let own = front (words_in c.args.older.now) (length c.args.newer.now + 1) c.args.older.now in
    c.in_ok-program.ensures
    ∙ ap (λ ws. front ws (length c.args.newer.now + 1) c.args.older.now) (c.deref.ensures.value ∙ c.in_ok-words.ensures)
    ∙ sym (append-nil own)

pub loop-word-preserved : goal.loop-word-preserved
loop-word-preserved c =
    one_more c.args.newer.now _ c.loop-word.program.items (words_in c.args.older.now) c.deref-word-items.result.now c.loop-word.word-index _
    (c.deref-word-items.ensures.value ∙ c.in_ok-words.ensures) c.loop-word-test.true c.loop-word.invariant c.in_ok-push_copy.ensures

pub returns-clause-joined : goal.returns-clause-joined
returns-clause-joined c =
    all_copied c.args.older.now c.args.newer.now c.loop-word.program.items c.deref-word-items.result.now c.loop-word.word-index
    (c.deref-word-items.ensures.value ∙ c.in_ok-words.ensures) c.loop-word-test.false c.loop-word.invariant

pub returns-then-not-check-clause-refused : goal.returns-then-not-check-clause-refused
returns-then-not-check-clause-refused c =
    let older = c.args.older.now in
    let newer = c.args.newer.now in
    let is : c.loop-word.program.items ≡ joined older newer =
    all_copied older newer c.loop-word.program.items c.deref-word-items.result.now c.loop-word.word-index
    (c.deref-word-items.ensures.value ∙ c.in_ok-words.ensures) c.loop-word-test.false c.loop-word.invariant in
    let same = c.in_ok-words.ensures in
    let count : c.len.result ≡ length (words_in older) = search arith in (
      ap (λ n. length older + n * (length newer + 1)) count ∙ sym (length-joined older newer),
      λ checked. false≢true (c.if-not-check.ensures.checked.1 (subst IsChecked (sym (c.deref-2.ensures.value ∙ is)) checked)),
    )

pub returns-clause-are_joined : goal.returns-clause-are_joined
returns-clause-are_joined c =
    let older = c.args.older.now in
    let newer = c.args.newer.now in
    record {
      checked = subst IsChecked c.deref-2.ensures.value (c.if-not-check.ensures.checked.0 refl);
      decides = subst (λ p. (r : List ℕ) (n m v w : ℕ) → Ends older r n v → Ends newer r m w → Ends p r (n + 1 + m) (prevailing v w))
          (sym (returns-clause-joined c)) (λ r n m v w one other. joined_runs older newer r n m v w one other);
    }
