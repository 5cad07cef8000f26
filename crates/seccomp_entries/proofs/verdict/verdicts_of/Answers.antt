use Rattle.std.proofs.Common.{◌≡◌, ◌+◌, ◌∷◌, [], ◌++◌, ℕ, List, Some, length, ap, sym, ◌∙◌, subst, length-append}
use Rattle.std.specs.Prelude.{IsSomeAnd, slice_get}
use Rattle.seccomp_entries.specs.Entries.{Entry}
use Rattle.seccomp_entries.specs.Verdicts.{IsVerdict}
use Rattle.seccomp_entries.specs.declared.verdict.Verdict.{Verdict}
use Rattle.seccomp_entries.proofs.Beside.{each_push}
use Rattle.seccomp_entries.proofs.verdict.verdicts_of.Goals as goal

pub loop-place-preserved : goal.loop-place-preserved
loop-place-preserved c =
    let entries : List Entry = c.args.entries.now in
    let most = c.max-most.result in
    let at = λ (k : ℕ) (v : Verdict). IsSomeAnd (slice_get entries k) (λ own. IsVerdict c.args.arch entries k most own v) in
    let vs : List Verdict = c.loop-place.verdicts.items in
    let v : Verdict = c.in_ok-verdict.verdict in
    let pushed : c.push.new.self.items ≡ vs ++ v ∷ [] = c.in_ok-push.ensures.items in
    let long : length vs ≡ c.loop-place.place = c.loop-place.invariant.long in
    let here = subst (λ k. at k v) (sym long) c.in_ok-verdict.ensures in
    record {
      long = ap (λ (l : List Verdict). length l) pushed ∙ length-append vs (v ∷ []) ∙ ap (λ k. k + 1) long;
      each = subst (λ (ws : List Verdict). (k : ℕ) (w : Verdict) → slice_get ws k ≡ Some w → at k w) (sym pushed)
          (each_push at vs v here c.loop-place.invariant.each);
    }
