use Rattle.std.proofs.Common.{◌≡◌, ◌+◌, ◌-◌, ◌<◌, ◌≤◌, ℕ, List, ◌∷◌, ◌++◌, drop, length, take, arith, ap, ◌∙◌, rules}
use Rattle.std.proofs.Math.ListN.{set}
use Rattle.std.proofs.lemmas.Bool.Decides.{nat_tests}
use Rattle.std.proofs.lemmas.List.{set-append_right, drop_more}
use Rattle.seccompiler_c.specs.Messages.{holds}
use Rattle.seccompiler_c.proofs.text.write_message.Goals as goal

-- A byte 0 is put after the front of a list.
ended : (front old : List ℕ) (n : ℕ) → length front ≡ n → n < length old → set (front ++ drop n old) n 0 ≡ front ++ 0 ∷ drop (n + 1) old
ended front old n long within =
    let none : n - n ≡ 0 = omega arith in
    let same : n ≤ n = omega arith in
    set-append_right front (drop n old) n n 0 long same ∙ ap (λ k. front ++ set (drop n old) k 0) none
    ∙ ap (λ (l : List ℕ). front ++ set l 0 0) (drop_more old n 0 within)

pub returns : goal.returns
returns c =
    let n = c.floor_char_boundary-count.result in
    let text = c.args.text.now in
    let old = c.args.message.now in
    let front = c.copy_from_slice.new.self in
    let byte : 0 < length old = grind (arith, nat_tests) in
    let some : n < length old = omega (arith, c.floor_char_boundary-count.ensures.bound) in
    let long : length front ≡ n = search rules in
    let same : front ≡ take n text = cc in
    holds (record {
      count = n;
      boundary = c.floor_char_boundary-count.ensures.boundary;
      room = some;
      most = λ more further within is. c.floor_char_boundary-count.ensures.nearest more further (omega (arith, within)) is;
      written = ended front old n long some ∙ ap (λ (l : List ℕ). l ++ 0 ∷ drop (n + 1) old) same;
    })
