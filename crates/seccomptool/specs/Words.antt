-- The names that the definitions, the contracts and the proofs cite of what stands below, passed on from one place.
pub use Rattle.clap.specs.Words.{first_value, found_of, kind_of, matched_of, one_text, raw_values}
pub use Rattle.seccomp_answers.specs.Calls.{AreKnownCalls, IsCall, IsRecordOf, IsRecordOn, IsUncalled, IsUncalledOf, IsUnknownCall}
pub use Rattle.seccomp_answers.specs.Causes.{AreUncompiledIn, AreUncompiledInSome, IsOfKind, IsOfLayers, IsRefusedAs, IsRefusedBeside}
pub use Rattle.seccomp_answers.specs.Causes.{IsRefusedPolicy, IsRefusedProfile, IsUnchosen, IsUndecided, IsUndiffed, IsUnfitting}
pub use Rattle.seccomp_answers.specs.Causes.{IsUnpicked, IsUnread, named, of_kind, of_name, refused, too_large, unknown, unread}
pub use Rattle.seccomp_answers.specs.Check.{IsCheckOf, verdict_where}
pub use Rattle.seccomp_answers.specs.CheckProfile.{IsProfileCheckOf}
pub use Rattle.seccomp_answers.specs.Chosen.{IsChosen, text_of}
pub use Rattle.seccomp_answers.specs.Compiled.{ArePrograms, instruction_bytes, program_bytes}
pub use Rattle.seccomp_answers.specs.Diff.{IsDiff, verdict_in}
pub use Rattle.seccomp_answers.specs.Errors.{from_filter, from_library, from_stack}
pub use Rattle.seccomp_answers.specs.Explain.{Explains}
pub use Rattle.seccomp_answers.specs.Kinds.{IsTakenAs}
pub use Rattle.seccomp_answers.specs.Layers.{IsLayer, IsStackExplained}
pub use Rattle.seccomp_answers.specs.Programs.{IsProgramOf, IsRefusedProgram}
pub use Rattle.seccomp_answers.specs.Sides.{IsFilterOf, IsProgramFor, IsSideOf}
pub use Rattle.seccomp_answers.specs.declared.error.AnswerError.{AnswerError}
pub use Rattle.seccomp_answers.specs.declared.error.AnswerError.TheVariants.{Fault, OutOfMemory, Profile, Told}
pub use Rattle.seccomp_answers.specs.declared.findings.Verdict.{Verdict}
pub use Rattle.seccomp_answers.specs.declared.findings.Verdict.TheVariants.{Different, Same, Undecided}
pub use Rattle.seccomp_answers.specs.declared.kind.Subject.{Subject}
pub use Rattle.seccomp_answers.specs.declared.kind.Subject.TheVariants.{Policy, Program}
pub use Rattle.seccomp_answers.specs.declared.layers.Layer.{Layer}
pub use Rattle.seccomp_answers.specs.declared.sides.Side.{Side}
pub use Rattle.seccomp_learn.specs.Usual.{AreCloning, AreRunnable, AreUsual, IsAskedArgument}
pub use Rattle.seccomp_learn.specs.Written.{HasFilter, HasFilters, beside, found_in}
pub use Rattle.seccomp_learn.specs.declared.observation.Kept.{Kept}
pub use Rattle.seccomp_learn.specs.declared.observation.Observation.{Observation}
pub use Rattle.seccomp_learn.specs.declared.trace.Trace.{Trace}
pub use Rattle.seccomp_profiles.specs.CompiledProfile.{HasUnknown, IsCompiledProfile}
pub use Rattle.seccomp_profiles.specs.Abis.{machine_of}
pub use Rattle.seccomp_profiles.specs.Types.{Container}
pub use Rattle.seccomp_profiles.specs.declared.types.Abi.{Abi}
pub use Rattle.seccomp_stack.specs.Joined.{IsRefusal}
pub use Rattle.seccomp_tree.specs.Layouts.{IsCompiledIn, IsRefusalIn, IsTreeTooLarge}
pub use Rattle.seccomp_tree.specs.declared.error.FilterError.{FilterError}
pub use Rattle.seccomp_tree.specs.declared.layout.Layout.{Layout}
pub use Rattle.seccomp_tree.specs.declared.layout.Layout.TheVariants.{Linear, Tree}
pub use Rattle.seccomp_views.specs.Written.{IsWrittenAs}
pub use Rattle.seccompiler.specs.Compiled.{IsLeastUnfit, IsTooLarge, numbers_of}
pub use Rattle.seccompiler.specs.JsonTypes.{JsonFilter}
pub use Rattle.seccompiler.specs.Policy.{Filter}
pub use Rattle.seccompiler.specs.declared.backend.SeccompAction.TheVariants.{Allow, Errno}
pub use Rattle.seccompiler.specs.declared.backend.TargetArch.{TargetArch}
pub use Rattle.seccompiler.specs.declared.bpf.sock_filter.{sock_filter}
pub use Rattle.seccomptool.specs.declared.command.Call.{Call}
pub use Rattle.seccomptool.specs.declared.command.Calls.{Calls}
pub use Rattle.seccomptool.specs.declared.command.Calls.TheVariants.{Log, One, Records}
pub use Rattle.seccomptool.specs.declared.command.Command.{Command}
pub use Rattle.seccomptool.specs.declared.command.Compile.{Compile}
pub use Rattle.seccomptool.specs.declared.command.Diff.{Diff}
pub use Rattle.seccomptool.specs.declared.command.Explain.{Explain}
pub use Rattle.seccomptool.specs.declared.command.Learn.{Learn}
pub use Rattle.seccomptool.specs.declared.command.Named.{Named}
pub use Rattle.seccomptool.specs.declared.command.Show.{Show}
pub use Rattle.seccomptool.specs.declared.command.Stack.{Stack}
pub use Rattle.seccomptool.specs.declared.learn.AskedArguments.{AskedArguments}
pub use Rattle.seccomptool.specs.declared.learn.Start.{Start}
pub use Rattle.seccomptool.specs.declared.learn.Start.TheVariants.{Into, Otherwise}
pub use Rattle.seccomptool.specs.declared.made.Made.{Made}
pub use Rattle.seccomptool.specs.declared.outside.Cause.TheVariants.{Answer, Overwrites, Terminal}
pub use Rattle.seccomptool.specs.declared.outside.Failure.{Failure}
pub use Rattle.std.specs.Borrow.{Bor}
pub use Rattle.std.specs.List.{AllZip}
pub use Rattle.std.specs.Prelude.{[], ⊤, ◌%◌, ◌++◌, ◌/◌, ◌<◌, ◌==◌, ◌||◌, ◌↔◌, ◌∷◌, ◌≡◌, ◌≢◌, ◌≤◌, ◌⊎◌, All, Any, Bool, Contains, IfErr}
pub use Rattle.std.specs.Prelude.{IfOk, IfSome, IsSome, IsTrue, List, None, Ok, OnErr, OnOk, Option, Some, String, Vec, codes, false}
pub use Rattle.std.specs.Prelude.{flat_map, if◌then◌else◌, is_none, length, map, max, option_map, slice_index_or, string_bytes, take, true}
pub use Rattle.std.specs.Prelude.{unwrap_or, ℕ}
pub use Rattle.std.specs.Str.{NoCharPasses, bytes_eq}
pub use Rattle.std.specs.declared.alloc.Global.{Global}
