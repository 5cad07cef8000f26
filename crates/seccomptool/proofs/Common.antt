-- The names that proofs cite of what stands below, passed on from one place.
pub use Rattle.seccomptool.specs.Words.{IsRecordOn, machine_of}
pub use Rattle.seccomptool.specs.Words.{AllZip, Allow, Answer, AnswerError, AskedArguments, Bor, Calls, Command, Container, Explains}
pub use Rattle.seccomptool.specs.Words.{Failure, Filter, FilterError, IsCheckOf, IsDiff, IsFilterOf, IsLeastUnfit, IsProfileCheckOf}
pub use Rattle.seccomptool.specs.Words.{IsProgramFor, IsRecordOf, IsRefusal, IsRefusalIn, IsRefusedAs, IsRefusedProfile, IsSideOf}
pub use Rattle.seccomptool.specs.Words.{IsTakenAs, IsUncalled, IsUndecided, IsUndiffed, IsUnfitting, IsUnpicked, IsUnread, IsWrittenAs}
pub use Rattle.seccomptool.specs.Words.{JsonFilter, Kept, Layer, Layout, Learn, Linear, Log, Made, Named, NoCharPasses, Observation, One}
pub use Rattle.seccomptool.specs.Words.{OutOfMemory, Overwrites, Policy, Profile, Program, Records, Subject, TargetArch, Trace, Tree}
pub use Rattle.seccomptool.specs.Words.{beside, found_in, found_of, from_filter, named, numbers_of, of_kind, of_name, refused, sock_filter}
pub use Rattle.seccomptool.specs.Words.{text_of, too_large, unknown, unread, verdict_where}
pub use Rattle.std.proofs.Common.{[], ◌%◌, ◌++◌, ◌+◌, ◌-◌, ◌<◌, ◌==◌, ◌∙◌, ◌∷◌, ◌≡◌, ◌≢◌, ◌≤◌, Any, Bool, IfOk, IfSome, IsTrue, List, None}
pub use Rattle.std.proofs.Common.{Option, Some, Vec, ap, arith, codes, drop, false, flat_map, get_or, inl, inr, length, map, max, nat_lt}
pub use Rattle.std.proofs.Common.{refl, rules, string_bytes, subst, suc, sym, take, true, true≢false, zero, ℕ, ℤ}
pub use Rattle.std.proofs.lemmas.List.{flat_map_more, get_or_default, map-append, take-append-drop, take_all, take_more}
pub use Rattle.std.proofs.lemmas.List.Elements.{All-from_get_or, Contains-append_right, Contains-get_or, Contains-push}
pub use Rattle.std.proofs.lemmas.Result.{IfErr-at_err, IfErr-weaker, IfOk-at_ok, IfOk-weaker, err_from_is_err_and}
pub use Rattle.std.proofs.lemmas.Slice.Zip.{all_zipped_more}
pub use Rattle.std.specs.BTreeMap.{get_by_text}
