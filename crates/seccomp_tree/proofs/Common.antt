-- The names that the proofs share, of std, of the library and of the definitions.
pub use Rattle.std.proofs.Common.{length-take-le, if◌then◌else◌, length-append, append_assoc, length-drop, option_map, drop-drop, slice_get}
pub use Rattle.std.proofs.Common.{unwrap_or, zero-add, Decides, bit_and, int_cmp, nat_cmp, reverse, Global, IsTrue, Option, get_or, length}
pub use Rattle.std.proofs.Common.{nat_eq, nat_le, nat_lt, arith, false, rules, subst, Bool, Less, List, None, Some, drop, refl, take, true}
pub use Rattle.std.proofs.Common.{zero, ◌&&◌, ◌++◌, All, Any, Vec, inl, inr, map, pos, suc, sym, ◌%◌, ◌*◌, ◌+◌, ◌-◌, ◌/◌, ◌<◌, ◌^◌, ◌↔◌, []}
pub use Rattle.std.proofs.Common.{◌∙◌, ◌∷◌, ◌≡◌, ◌≢◌, ◌≤◌, ◌⊎◌, ap, ℕ, ℤ}
pub use Rattle.seccomp_tree.specs.Code.{second_stands_out, AreCallSteps, IsReached, to_return, AreSteps, IsAnswer, IsPushed, IsTested, IsIn}
pub use Rattle.seccomp_tree.specs.Code.{compares, found_in, stand_in, to_place, AreLaid, AreOver, IsSound, Returns, goes_on, tail_at, AllIn}
pub use Rattle.seccomp_tree.specs.Code.{AreMet, GoesOn, IsPart, IsTree, IsTurn, Starts, passed, Grows, IsMet, Leads, gives, holds, row}
pub use Rattle.seccomp_tree.specs.Decisions.{condition_length, condition_steps, rules_length, part_length, part_steps, run_steps, is_plain}
pub use Rattle.seccomp_tree.specs.Decisions.{nothing, Ruling, begins, behind, joined, passes, First, Takes, alike, stops, ends, here, only}
pub use Rattle.seccompiler.specs.Policy.{policy_differs, operator_part, ChainMatches, IsCallNumber, chain_under, IsDecision, Condition}
pub use Rattle.seccompiler.specs.Policy.{RuleHolds, chains_of, part_of, word_of, Filter, Chain, Holds, Rule}
pub use Rattle.seccompiler.specs.Machine.{greatest_length, is_not_equal, argument_at, is_at_least, IsChecked, IsInRange, then_step, is_less}
pub use Rattle.seccompiler.specs.Machine.{IsRecord, is_equal, word_at, IsFine, jumps, loads, masks, stays, Does, Ends, Goes}
pub use Rattle.seccompiler.specs.{Architecture.audit_word, Code.give, Compiled.AreCallNumbers, Compiled.EndsAtDecision, Compiled.numbers_of}
pub use Rattle.seccompiler.specs.{Code.jump, Code.load, declared.backend.SeccompCmpOp.SeccompCmpOp, declared.bpf.sock_filter.sock_filter}
pub use Rattle.seccomp_tree.specs.declared.layout.Layout.{Layout, TheVariants.Linear, TheVariants.Tree}
pub use Rattle.std.specs.{BTreeMap.insert_entry, BTreeMap.is_at, Int.Bits.and_zero_r, List.list_all, Map.keys_of, Map.lookup, Set.is_member}
pub use Rattle.seccomp_tree.specs.{Decided.other_architecture, declared.steps.Target.TheVariants.Give, declared.steps.Target.TheVariants.At}
pub use Rattle.seccomp_tree.specs.Decided.{default_from, DecisionSet, default_for, rulings_for, StartAbove, IsDecided, calls_of, decided}
pub use Rattle.seccomp_tree.specs.declared.{code.Test.Test, decisions.DefaultValue.DefaultValue, steps.Step.Step, steps.Target.Target}
pub use Rattle.std.proofs.lemmas.{List.get_or_read_under, List.get_or-reverse, List.length-reverse, List.reverse-append, Result.IfOk-weaker}
pub use Rattle.std.proofs.lemmas.List.{map-append, drop_more, take_rest, drop_all, Elements.All-drop, Elements.All-head, Elements.All-tail}
pub use Rattle.std.proofs.{Math.Nat.one-le-pow, Math.Nat.pow-succ', lemmas.List.Elements.All-take, lemmas.List.Elements.All-nil}
pub use Rattle.seccompiler.specs.declared.backend.SeccompCmpArgLen.{SeccompCmpArgLen, TheVariants.Dword, TheVariants.Qword}
pub use Rattle.seccompiler.{proofs.Words.number_halves, proofs.Words.mask_halves, proofs.Words.word_fits, specs.Code.mask}
pub use Rattle.seccomp_tree.specs.{Layouts.IsCompiledIn, Layouts.AgreesInAll, declared.code.Test.TheVariants.AtLeast}
pub use Rattle.std.{proofs.lemmas.Bool.cases_lt, proofs.lemmas.Bool.Decides.not_from_Decides, proofs.lemmas.Int.ints, specs.Int.Bits.and_lt}
pub use Rattle.seccomp_tree.specs.{FilterDecisions.decisions_of, FilterDecisions.rulings_of, declared.code.Test.TheVariants.Equal}
pub use Rattle.seccompiler.specs.declared.backend.SeccompCmpOp.TheVariants.{MaskedEq}
pub use Rattle.std.proofs.lemmas.Bool.{false_from_ne_true, cases_Bool, false≢true, cases_eq, Decides.Decides-by_and, Decides.nat_tests}
pub use Rattle.seccomp_tree.specs.{FilterDecisions.DecideAs, FilterDecisions.call_of, TreeProgram.EndsAsDecided, TreeProgram.IsTreeProgram}
pub use Rattle.seccomp_tree.specs.TreeProgram.{calls_length, EndsWithin, AreRanges, length_by, one_value, TakesOwn, other, one, own}
