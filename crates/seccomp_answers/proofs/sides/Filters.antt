-- For `program_like` and `found_of`: the program that fits stands for its filter.
use Rattle.std.proofs.Common.{ℕ, List}
use Rattle.seccompiler.specs.declared.backend.TargetArch.{TargetArch}
use Rattle.seccompiler.specs.declared.bpf.sock_filter.{sock_filter}
use Rattle.seccompiler.specs.Compiled.{EndsAtDecision, IsCompiled}
use Rattle.seccompiler.specs.Machine.{IsChecked, IsRecord}
use Rattle.seccompiler.specs.Policy.{Filter}
use Rattle.seccomp_compare.proofs.OfSeven.{checked_of_seven, ends_of_seven}
use Rattle.seccomp_tree.specs.Layouts.{IsFitting, as_linear, as_tree}
use Rattle.seccomp_answers.specs.Rulings.{StandsFor, of_filter}

module _ (target : TargetArch) (f : Filter) (p : List sock_filter) where
  stands_for : IsChecked p → ((r : List ℕ) → IsRecord r → EndsAtDecision f p r) → StandsFor target (of_filter f) p
  stands_for checked decides = record {
    checked = checked_of_seven p checked;
    decides = λ r rec.
        let at = decides r rec in
        record { steps = at.steps; word = at.word; ends = ends_of_seven p r at.steps at.word at.ends; decided = at.decision };
  }

  pub fitting_stands : IsFitting f p → StandsFor target (of_filter f) p
  fitting_stands (as_tree is) = stands_for is.tree.checked is.decides
  fitting_stands (as_linear large is) = stands_for is.checked is.decides

  pub linear_stands : IsCompiled f p → StandsFor target (of_filter f) p
  linear_stands is = stands_for is.checked is.decides
