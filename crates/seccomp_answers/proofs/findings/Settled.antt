-- For `holds_by_rules`: where filters decide as a relation says, so do their programs.
use Rattle.std.proofs.Common.{ℕ, List}
use Rattle.seccompiler.specs.declared.backend.TargetArch.{TargetArch}
use Rattle.seccompiler.specs.declared.bpf.sock_filter.{sock_filter}
use Rattle.seccompiler.specs.Policy.{Filter}
use Rattle.seccomp_compare.specs.Rules.{AreRelatedOn}
use Rattle.seccomp_compare.specs.declared.Relation.{Relation}
use Rattle.seccomp_answers.specs.Findings.{AreReturned, IsFound}
use Rattle.seccomp_answers.specs.Rulings.{StandsFor, of_filter}
use Rattle.seccomp_answers.specs.declared.findings.Answer.TheVariants.{Holds}
use Rattle.seccomp_answers.specs.declared.findings.Part.TheVariants.{Named}

module _ (target : TargetArch) (relation : Relation) (new old : List sock_filter) where
  pub settled_by : (f g : Filter) → StandsFor target (of_filter f) new → StandsFor target (of_filter g) old → (n : ℕ)
      → AreRelatedOn relation f g n → IsFound target relation (AreReturned new old) (Named n) Holds
  settled_by f g of_new of_old n are = λ r own.
      let a = of_new.decides r own.0 in
      let b = of_old.decides r own.0 in
      let words : AreReturned new old r a.word b.word = record {
        new_steps = a.steps;
        new_ends = a.ends;
        old_steps = b.steps;
        old_ends = b.ends;
      } in
      (a.word, b.word, words, are.related r own.0 own.2 a.word b.word a.decided b.decided)
