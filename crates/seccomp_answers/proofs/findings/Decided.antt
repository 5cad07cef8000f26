-- For `findings_of` and `diff_pair`: what is found of two programs is found of whatever they stand for.
use Rattle.std.proofs.Common.{ℕ, ◌^◌, List, refl, sym, subst}
use Rattle.std.proofs.lemmas.List.Elements.{All-weaker}
use Rattle.seccompiler.specs.declared.backend.TargetArch.{TargetArch}
use Rattle.seccompiler.specs.declared.bpf.sock_filter.{sock_filter}
use Rattle.seccomp_compare.specs.declared.Relation.{Relation}
use Rattle.seccompiler.specs.Architecture.{table_of}
use Rattle.seccompiler.specs.Machine.{IsRecord}
use Rattle.seccomp_compare.specs.Machine.{Ends}
use Rattle.seccomp_compare.proofs.OneEnd.{ends_only}
use Rattle.seccomp_answers.specs.declared.findings.Answer.{Answer}
use Rattle.seccomp_answers.specs.declared.findings.Answer.TheVariants.{Holds, Fails, Undecided}
use Rattle.seccomp_answers.specs.declared.findings.Finding.{Finding}
use Rattle.seccomp_answers.specs.declared.findings.Part.{Part}
use Rattle.seccomp_answers.specs.Findings.{AreFoundOn, ArePartsBelow, AreReturned, IsFound}
use Rattle.seccomp_answers.specs.Rulings.{AreDecided, AreFindingsOf, Decides, EndsAsDecided, Ruling, StandsFor}
use Rattle.seccomp_answers.proofs.findings.Covered.{covered}
use Rattle.seccomp_answers.proofs.findings.Ending.{record_in}

-- A program that ends as decided ends with no other word.
decided_word : (target : TargetArch) (ruling : Ruling) (p : List sock_filter) (r : List ℕ) (steps word : ℕ) → Ends p r steps word
    → EndsAsDecided target ruling p r → Decides target ruling r word
decided_word target ruling p r steps word ends at =
    subst (Decides target ruling r) (sym (ends_only p r ends at.ends refl refl).1) at.decided

module _ (target : TargetArch) (relation : Relation) (new old : List sock_filter) (by_new by_old : Ruling)
    (of_new : StandsFor target by_new new) (of_old : StandsFor target by_old old) where
  words_decided : (r : List ℕ) → IsRecord r → (new_word old_word : ℕ) → AreReturned new old r new_word old_word
      → AreDecided target by_new by_old r new_word old_word
  words_decided r rec new_word old_word are = (
    decided_word target by_new new r are.new_steps new_word are.new_ends (of_new.decides r rec),
    decided_word target by_old old r are.old_steps old_word are.old_ends (of_old.decides r rec),
  )

  found_decided : (part : Part) (answer : Answer) → IsFound target relation (AreReturned new old) part answer
      → IsFound target relation (AreDecided target by_new by_old) part answer
  found_decided part Holds found = λ r own.
      let are = found r own in
      (are.0, are.1, words_decided r (record_in target part r own) are.0 are.1 are.2, are.3)
  found_decided part (Fails call old_word new_word throughout) found = (
    found.0,
    words_decided call (record_in target part call found.0) new_word old_word found.1,
    found.2,
    λ all r own. words_decided r (record_in target part r own) new_word old_word (found.3 all r own),
  )
  found_decided part (Undecided call old_place new_place) found = found

  -- It is found of them on the same parts.
  pub decided_on : (parts : List Part) (findings : List Finding) → AreFoundOn target relation (AreReturned new old) parts findings
      → AreFoundOn target relation (AreDecided target by_new by_old) parts findings
  decided_on parts findings found = record {
    all = found.all;
    are = record {
      pieces = found.are.pieces;
      each = All-weaker (λ (f : Finding). IsFound target relation (AreReturned new old) f.part f.answer)
          (λ (f : Finding). IsFound target relation (AreDecided target by_new by_old) f.part f.answer)
          (λ f. found_decided f.part f.answer) found.all found.are.each;
    };
    kept = found.kept;
  }

  -- Where the parts are those of all calls, they are findings of both.
  pub decided : (parts : List Part) (findings : List Finding) → ArePartsBelow (table_of target) parts (2 ^ 32)
      → AreFoundOn target relation (AreReturned new old) parts findings → AreFindingsOf target relation by_new by_old findings
  decided parts findings are_all found =
      let are = decided_on parts findings found in
      record {
        parts = parts;
        are_all = are_all;
        are = are;
        holds = covered target relation (AreDecided target by_new by_old) parts findings are_all are;
      }
