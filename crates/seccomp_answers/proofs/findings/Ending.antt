-- For `answer_on` and `ruled_by`: a program that may be run ends on each record, so that it is related to itself.
use Rattle.std.proofs.Common.{◌≡◌, ℕ, List, refl, subst, arith}
use Rattle.seccompiler.specs.declared.bpf.sock_filter.{sock_filter}
use Rattle.seccompiler.specs.Machine.{IsRecord}
use Rattle.seccomp_compare.specs.declared.Relation.{Relation}
use Rattle.seccomp_compare.specs.declared.Relation.TheVariants.{Alike, AtMostAsPermissive}
use Rattle.seccomp_compare.specs.Compare.{Related}
use Rattle.seccompiler.specs.declared.backend.TargetArch.{TargetArch}
use Rattle.seccomp_answers.specs.Findings.{AreReturned, IsFound, IsInPart}
use Rattle.seccomp_answers.specs.declared.findings.Answer.TheVariants.{Holds}
use Rattle.seccomp_answers.specs.declared.findings.Part.{Part}
use Rattle.seccomp_answers.specs.declared.findings.Part.TheVariants.{Named, Unnamed, Elsewhere}
use Rattle.seccomp_compare.specs.Machine.{Ends}
use Rattle.seccomp_compare.specs.Machine.{IsChecked}
use Rattle.seccomp_compare.proofs.Ends.{ends_somehow}

itself : (relation : Relation) (word : ℕ) → Related relation word word
itself Alike word = refl
itself AtMostAsPermissive word = omega arith

-- The calls of a part are records.
pub record_in : (target : TargetArch) (part : Part) (r : List ℕ) → IsInPart target part r → IsRecord r
record_in target (Named number) r own = own.0
record_in target (Unnamed least greatest) r own = own.0
record_in target (Elsewhere least greatest) r own = own.0

-- So the relation holds of programs that are the same, on every call.
pub same_found : (target : TargetArch) (relation : Relation) (part : Part) (new old : List sock_filter) → IsChecked new → new ≡ old
    → IsFound target relation (AreReturned new old) part Holds
same_found target relation part new old checked same = λ r own.
    let end = ends_somehow new r checked (record_in target part r own) in
    let words : AreReturned new old r end.1 end.1 = record {
      new_steps = end.0;
      new_ends = end.2;
      old_steps = end.0;
      old_ends = subst (λ p. Ends p r end.0 end.1) same end.2;
    } in
    (end.1, end.1, words, itself relation end.1)
