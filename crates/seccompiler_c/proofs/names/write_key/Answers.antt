use Rattle.std.proofs.Common.{◌≡◌, ◌+◌, ◌<◌, ℕ, List, Some, [], ◌∷◌, ◌++◌, String, Global, string_bytes, length, map, slice_get, pos, w64}
use Rattle.std.proofs.Common.{refl, sym, ap, ◌∙◌, subst, arith, append_assoc, option_map}
use Rattle.std.specs.Map.{keys_of}
use Rattle.std.proofs.Math.Seq.{get_or-append_seam}
use Rattle.std.proofs.lemmas.Int.{to_z-of_z}
use Rattle.std.proofs.lemmas.List.{length-append}
use Rattle.std.proofs.lemmas.Option.{slice_get-map, slice_get_read}
use Rattle.seccompiler_c.specs.Messages.{HoldsMessage}
use Rattle.seccompiler_c.proofs.names.write_key.Goals as goal

-- The name after as many as the index says is that of the index.
name_at : (keys done left : List (String Global)) (key : String Global) (index : ℕ) → keys ≡ done ++ key ∷ left → length done ≡ index
    → slice_get (map string_bytes keys) index ≡ Some (string_bytes key)
name_at keys done left key index whole count =
    let all = done ++ key ∷ left in
    let long : length all ≡ length done + length (key ∷ left) = length-append done (key ∷ left) in
    let within : length done < length all = omega (arith, long) in
    let here : slice_get all (length done) ≡ Some key =
    slice_get_read all (length all) (length done) key refl within (sym (get_or-append_seam done key left key)) in
    let there : slice_get keys index ≡ Some key =
    ap (λ (k : List (String Global)). slice_get k index) whole ∙ ap (slice_get all) (sym count) ∙ here in
    slice_get-map string_bytes keys index ∙ ap (option_map string_bytes) there

pub returns-then-place-index-clause-found : goal.returns-then-place-index-clause-found
returns-then-place-index-clause-found c =
    let so_far = c.loop-key.invariant in
    let done : List (String Global) = so_far.done in
    let left : List (String Global) = c.next.new.self in
    let key : String Global = c.in-Some.key.now in
    let whole : keys_of c.args.filters.now.0.entries ≡ done ++ key ∷ left =
    so_far.whole ∙ ap (λ (ks : List (String Global)). done ++ ks) c.in-Some.ensures.steps in
    let wrote = c.write_text in
    let said = string_bytes key in
    let holds : HoldsMessage said c.args.name.now wrote.new.buffer =
    subst (λ (t : List ℕ). HoldsMessage t c.args.name.now wrote.new.buffer) c.as_str.ensures.value
    (subst (λ (old : List ℕ). HoldsMessage c.as_str.result.now old wrote.new.buffer) so_far.left wrote.ensures.holds) in
    let long = wrote.ensures.told ∙ ap (λ (t : List ℕ). pos (length t)) c.as_str.ensures.value in
    rw (to_z-of_z w64 wrote.result (record { sfits = wrote.type_inv })) (
      said,
      name_at (keys_of c.args.filters.now.0.entries) done left key c.args.index whole (so_far.count ∙ c.if-place-index.true),
      long,
      holds,
    )

pub loop-key-preserved : goal.loop-key-preserved
loop-key-preserved c =
    let so_far = c.loop-key.invariant in
    let done : List (String Global) = so_far.done in
    let left : List (String Global) = c.next.new.self in
    let key : String Global = c.in-Some.key.now in
    let long : length (done ++ key ∷ []) ≡ length done + 1 = length-append done (key ∷ []) in
    record {
      done = done ++ key ∷ [];
      whole = so_far.whole ∙ ap (λ (ks : List (String Global)). done ++ ks) c.in-Some.ensures.steps
          ∙ sym (append_assoc done (key ∷ []) left);
      count = long ∙ ap (λ n. n + 1) so_far.count;
      before = omega (arith, so_far.before, c.if-place-index.false);
      left = so_far.left;
    }
