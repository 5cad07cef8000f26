-- For `findings_of`: where nothing is found, the relation holds on every call of the architecture.
use Rattle.std.proofs.Common.{◌≡◌, ℕ, ◌^◌, ◌<◌, ◌≤◌, List, [], ◌∷◌, map, All, Contains, get_or, refl, sym, ap, ◌∙◌, subst, inl, inr, arith}
use Rattle.std.proofs.lemmas.Bool.{cases_eq, cases_lt}
use Rattle.std.proofs.lemmas.List.Elements.{All-nil, All-cons, All-map, All-contains, Contains-append_left, Contains-push}
use Rattle.seccompiler.specs.declared.backend.TargetArch.{TargetArch}
use Rattle.seccomp_compare.specs.declared.Relation.{Relation}
use Rattle.seccompiler.specs.Architecture.{audit_word, table_of}
use Rattle.seccompiler.specs.Machine.{IsRecord, word_at}
use Rattle.seccompiler.specs.SyscallTable.{Pair}
use Rattle.seccomp_answers.specs.Findings.{HoldsThroughout, IsInPart, IsFound, AreFoundOn, ArePartsBelow, no_part, then_named}
use Rattle.seccomp_answers.specs.Findings.{then_gap, worse}
use Rattle.seccomp_answers.specs.Findings.{verdict_on, verdict_of}
use Rattle.seccomp_answers.proofs.findings.Kept.{kept_verdict}
use Rattle.seccomp_answers.proofs.findings.CutParts.{parts_joined}
use Rattle.seccomp_answers.specs.declared.findings.Answer.{Answer}
use Rattle.seccomp_answers.specs.declared.findings.Answer.TheVariants as answer
use Rattle.seccomp_answers.specs.declared.findings.Finding.{Finding}
use Rattle.seccomp_answers.specs.declared.findings.Part.{Part}
use Rattle.seccomp_answers.specs.declared.findings.Part.TheVariants.{Named, Unnamed, Elsewhere}
use Rattle.seccomp_answers.specs.declared.findings.Verdict.{Verdict}
use Rattle.seccomp_answers.specs.declared.findings.Verdict.TheVariants.{Same, Different, Undecided}

-- ---- the verdict

both_same : (a : Answer) (v : Verdict) → worse (verdict_on a) v ≡ Same → (a ≡ answer.Holds) × (v ≡ Same)
both_same answer.Holds v is = (refl, is)
both_same (answer.Fails call old new throughout) v is = cc
both_same (answer.Undecided call old new) Same is = cc
both_same (answer.Undecided call old new) Different is = cc
both_same (answer.Undecided call old new) Undecided is = cc

all_hold : (findings : List Finding) → verdict_of findings ≡ Same → All (λ (f : Finding). f.answer ≡ answer.Holds) findings
all_hold [] is = All-nil (λ (f : Finding). f.answer ≡ answer.Holds)
all_hold (f ∷ findings) is =
    let both = both_same f.answer (verdict_of findings) is in
    All-cons (λ (f : Finding). f.answer ≡ answer.Holds) f findings both.0 (all_hold findings both.1)

-- ---- the part of a number

HasNumber : Part → ℕ → Type 0
HasNumber (Named number) n = n ≡ number
HasNumber (Unnamed least greatest) n = (least ≤ n) × (n ≤ greatest)
HasNumber (Elsewhere least greatest) n = ⊥

part_of : (table : List Pair) (parts : List Part) (end n : ℕ) → ArePartsBelow table parts end → n < end
    → (part : Part) × Contains parts part × HasNumber part n
unfolding HasNumber
part_of table parts end n (no_part none is) less = absurd (omega arith)
part_of table parts end n (then_named {front} {number} below named own is) less = elim (cases_eq n number) [
  | inl same ↦ (Named number, subst (λ ps. Contains ps (Named number)) (sym own) (Contains-push front (Named number)), same)
  | inr other ↦
      let before = part_of table front number n below (omega arith) in
      (before.0, subst (λ ps. Contains ps before.0) (sym own) (Contains-append_left front (Named number ∷ []) before.0 before.1), before.2)
]
part_of table parts end n (then_gap {front} {least} {greatest} below gap own is) less = elim (cases_lt n least) [
  | inl lower ↦
      let before = part_of table front least n below lower in (
        before.0,
        subst (λ ps. Contains ps before.0) (sym own) (Contains-append_left front (Unnamed least greatest ∷ []) before.0 before.1),
        before.2,
      )
  | inr from ↦ (
    Unnamed least greatest,
    subst (λ ps. Contains ps (Unnamed least greatest)) (sym own) (Contains-push front (Unnamed least
        greatest)),
    (from, omega arith),
  )
]

-- ---- the calls of the architecture

in_part : (target : TargetArch) (part : Part) (r : List ℕ) → IsRecord r → word_at r 4 ≡ audit_word target
    → HasNumber part (word_at r 0) → IsInPart target part r
unfolding HasNumber
in_part target (Named number) r rec arch has = (rec, arch, has)
in_part target (Unnamed least greatest) r rec arch has = (rec, arch, has.0, has.1)
in_part target (Elsewhere least greatest) r rec arch has = absurd has

number_fits : (r : List ℕ) → IsRecord r → word_at r 0 < 2 ^ 32
number_fits r rec =
    let long = rec.long in
    let first = rec.bytes 0 0 (omega arith) in
    let second = rec.bytes 1 0 (omega arith) in
    let third = rec.bytes 2 0 (omega arith) in
    let fourth = rec.bytes 3 0 (omega arith) in
    omega arith

-- Where the verdict is that nothing differs, the relation holds on each part.
pub parts_hold : (target : TargetArch) (relation : Relation) (Words : List ℕ → ℕ → ℕ → Type 0) (parts : List Part)
    (findings : List Finding) → AreFoundOn target relation Words parts findings → verdict_of findings ≡ Same
    → All (λ part. IsFound target relation Words part answer.Holds) parts
parts_hold target relation Words parts findings found same =
    let holds = all_hold found.all (sym (kept_verdict found.all) ∙ ap verdict_of (sym found.kept) ∙ same) in
    parts_joined target relation Words parts (map (λ (f : Finding). f.part) found.all) found.are.pieces
    (All-map (λ part. IsFound target relation Words part answer.Holds) (λ (f : Finding). f.part) found.all
    (λ k d room. subst (λ a. IsFound target relation Words (get_or found.all k d).part a) (holds k d room) (found.are.each k d room)))

-- Then it holds for each call of the architecture, where the parts are of all.
pub covered : (target : TargetArch) (relation : Relation) (Words : List ℕ → ℕ → ℕ → Type 0) (parts : List Part) (findings : List Finding)
    → ArePartsBelow (table_of target) parts (2 ^ 32) → AreFoundOn target relation Words parts findings
    → verdict_of findings ≡ Same → HoldsThroughout target relation Words
covered target relation Words parts findings are_all found same = λ r rec arch.
    let Holding = λ (part : Part). IsFound target relation Words part answer.Holds in
    let each = parts_hold target relation Words parts findings found same in
    let own = part_of (table_of target) parts (2 ^ 32) (word_at r 0) are_all (number_fits r rec) in
    All-contains Holding parts own.0 each own.1 r (in_part target own.0 r rec arch own.2)
