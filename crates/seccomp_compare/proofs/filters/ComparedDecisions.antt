-- For `compare_filters` and `compare_program`: what holds of the words of programs holds of the decisions of their filters.
use Rattle.std.proofs.Common.{ℕ, List, refl, sym, subst}
use Rattle.seccompiler.specs.declared.bpf.sock_filter.{sock_filter}
use Rattle.seccomp_compare.specs.declared.Relation.{Relation}
use Rattle.seccomp_compare.specs.declared.Comparison.{Comparison}
use Rattle.seccomp_compare.specs.declared.Comparison.TheVariants.{Holds, Fails, Undecided}
use Rattle.seccompiler.specs.Machine.{IsRecord}
use Rattle.seccomp_compare.specs.Machine.{Ends}
use Rattle.seccompiler.specs.Policy.{Filter, IsDecision}
use Rattle.seccomp_compare.specs.Compare.{CallSet, Compares, AnswersRelated, AnswersUnrelated}
use Rattle.seccomp_compare.specs.CompareFilters.{ComparesFilters, DecisionsRelated, DecisionsUnrelated, ComparesProgram}
use Rattle.seccomp_tree.specs.Layouts.{Decides}
use Rattle.seccomp_compare.proofs.OneEnd.{ends_only}
use Rattle.seccomp_compare.proofs.OfSeven.{ends_of_seven}

-- the word with which a filter's program ends is its decision
ends_at_decision : (f : Filter) (p : List sock_filter) (r : List ℕ) (steps word : ℕ) → Decides f p → IsRecord r → Ends p r steps word
    → IsDecision f r word
ends_at_decision f p r steps word is rec ends =
    let at = is r rec in
    subst (IsDecision f r) (sym (ends_only p r ends (ends_of_seven p r at.steps at.word at.ends) refl refl).1) at.decision

-- words that are related are decisions that are
related_decisions : (relation : Relation) (f g : Filter) (p q : List sock_filter) (r : List ℕ) → Decides f p → Decides g q → IsRecord r
    → AnswersRelated relation p q r → DecisionsRelated relation f g r
related_decisions relation f g p q r of_f of_g rec answers = record {
  word = answers.word;
  decision = ends_at_decision f p r answers.steps answers.word of_f rec answers.ends;
  other_word = answers.other_word;
  other_decision = ends_at_decision g q r answers.other_steps answers.other_word of_g rec answers.other_ends;
  related = answers.related;
}

-- so it is with words that aren't
unrelated_decisions : (relation : Relation) (f g : Filter) (p q : List sock_filter) (r : List ℕ) → Decides f p → Decides g q
    → IsRecord r → AnswersUnrelated relation p q r → DecisionsUnrelated relation f g r
unrelated_decisions relation f g p q r of_f of_g rec answers = record {
  word = answers.word;
  decision = ends_at_decision f p r answers.steps answers.word of_f rec answers.ends;
  other_word = answers.other_word;
  other_decision = ends_at_decision g q r answers.other_steps answers.other_word of_g rec answers.other_ends;
  unrelated = answers.unrelated;
}

-- what a comparison says of the programs it says of the filters
pub compares_filters : (calls : CallSet) (relation : Relation) (f g : Filter) (p q : List sock_filter) (answer : Comparison)
    → Decides f p → Decides g q → Compares calls relation p q answer → ComparesFilters calls relation f g answer
compares_filters calls relation f g p q Holds of_f of_g known =
    λ r call. related_decisions relation f g p q r of_f of_g call.record_is (known r call)
compares_filters calls relation f g p q (Fails r) of_f of_g known =
    (known.0, unrelated_decisions relation f g p q r of_f of_g known.0.record_is known.1)
compares_filters calls relation f g p q Undecided of_f of_g known = tt

-- what a comparison says of two programs it says of the first and of the filter of the second
pub compares_program : (calls : CallSet) (relation : Relation) (p : List sock_filter)
    (f : Filter) (q : List sock_filter) (answer : Comparison)
    → Decides f q → Compares calls relation p q answer → ComparesProgram calls relation p f answer
compares_program calls relation p f q Holds of_f known = λ r call.
    let answers = known r call in
    record {
      word = answers.word;
      steps = answers.steps;
      ends = answers.ends;
      other_word = answers.other_word;
      decision = ends_at_decision f q r answers.other_steps answers.other_word of_f call.record_is answers.other_ends;
      related = answers.related;
    }
compares_program calls relation p f q (Fails r) of_f known =
    let answers = known.1 in (
      known.0,
      record {
        word = answers.word;
        steps = answers.steps;
        ends = answers.ends;
        other_word = answers.other_word;
        decision = ends_at_decision f q r answers.other_steps answers.other_word of_f known.0.record_is answers.other_ends;
        unrelated = answers.unrelated;
      },
    )
compares_program calls relation p f q Undecided of_f known = tt
