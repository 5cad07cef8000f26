-- For `diff_pair`: where nothing is found on other architectures, the relation holds on every call of them.
use Rattle.std.proofs.Common.{◌≡◌, ℕ, ◌+◌, ◌-◌, ◌^◌, ◌<◌, List, [], ◌∷◌, inl, inr, arith}
use Rattle.std.proofs.lemmas.Bool.{cases_lt}
use Rattle.std.proofs.lemmas.List.Elements.{All-head, All-tail}
use Rattle.seccompiler.specs.declared.backend.TargetArch.{TargetArch}
use Rattle.seccomp_compare.specs.declared.Relation.{Relation}
use Rattle.seccompiler.specs.Architecture.{audit_word}
use Rattle.seccompiler.specs.Machine.{IsRecord, word_at}
use Rattle.seccomp_answers.specs.Findings.{AreFoundOn, IsFound, verdict_of}
use Rattle.seccomp_answers.specs.Diff.{HoldsElsewhere, other_parts}
use Rattle.seccomp_answers.specs.declared.findings.Answer.TheVariants as answer
use Rattle.seccomp_answers.specs.declared.findings.Finding.{Finding}
use Rattle.seccomp_answers.specs.declared.findings.Part.{Part}
use Rattle.seccomp_answers.specs.declared.findings.Part.TheVariants.{Elsewhere}
use Rattle.seccomp_answers.specs.declared.findings.Verdict.TheVariants.{Same}
use Rattle.seccomp_answers.proofs.findings.Covered.{parts_hold}

word_fits : (r : List ℕ) → IsRecord r → word_at r 4 < 2 ^ 32
word_fits r rec =
    let long = rec.long in
    let first = rec.bytes 4 0 (omega arith) in
    let second = rec.bytes 5 0 (omega arith) in
    let third = rec.bytes 6 0 (omega arith) in
    let fourth = rec.bytes 7 0 (omega arith) in
    omega arith

pub others_covered : (target : TargetArch) (relation : Relation) (Words : List ℕ → ℕ → ℕ → Type 0) (findings : List Finding)
    → AreFoundOn target relation Words (other_parts target) findings → verdict_of findings ≡ Same → HoldsElsewhere target relation Words
others_covered target relation Words findings are same = λ r rec other.
    let Holding = λ (part : Part). IsFound target relation Words part answer.Holds in
    let word = audit_word target in
    let below : Part = Elsewhere 0 (word - 1) in
    let above : Part = Elsewhere (word + 1) (2 ^ 32 - 1) in
    let each = parts_hold target relation Words (other_parts target) findings are same in
    let fits = word_fits r rec in
    elim (cases_lt (word_at r 4) word) [
      | inl less ↦ All-head Holding below (above ∷ []) each r (rec, omega arith, omega (arith, less))
      | inr from ↦
          let more : word < word_at r 4 = grind (arith, from, other) in
          All-head Holding above [] (All-tail Holding below (above ∷ []) each) r (rec, omega (arith, more), omega (arith, fits))
    ]
