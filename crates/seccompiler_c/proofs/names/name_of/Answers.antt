use Rattle.std.proofs.Common.{◌≤◌, map, length, string_bytes, w64, rules, subst, sym, ℕ}
use Rattle.std.specs.Map.{keys_of}
use Rattle.std.proofs.lemmas.Int.{to_z-of_z}
use Rattle.std.proofs.lemmas.List.{length-map}
use Rattle.std.proofs.lemmas.Result.{err_from_is_err_and}
use mir.Val.{SFits}
use Rattle.seccompiler_c.proofs.names.FilterNames.{are_names, shape_refused}
use Rattle.seccompiler_c.proofs.names.name_of.Goals as goal

pub returns-in_err-filters-clause-unnamed : goal.returns-in_err-filters-clause-unnamed
returns-in_err-filters-clause-unnamed c =
    let error = err_from_is_err_and c.from_residual.result c.from_residual.ensures.1 in
    let why = c.in_err-filters.ensures in
    rw (error.1, error.2) (shape_refused c.args.text.now c.args.index c.in_err-filters.field-0.0 why.fault why.cause why.no_reader)

pub returns-in-Some-clause-named : goal.returns-in-Some-clause-named
returns-in-Some-clause-named c =
    let read = c.in_ok-filters.ensures.filters in
    let names = are_names read.0 c.in_ok-filters.filters read.2 (c.in_ok-filters.ensures.read_back read.0 read.2) in
    let found = c.in-Some.ensures.found in
    let fits : SFits w64 c.in-Some.length = search rules in
    rw (to_z-of_z w64 c.in-Some.length fits)
    (found.0, (read.0, read.1, (map string_bytes (keys_of c.in_ok-filters.filters.0.entries), names, found.1)), found.2, found.3)

pub returns-clause-unnamed : goal.returns-clause-unnamed
returns-clause-unnamed c =
    let read = c.in_ok-filters.ensures.filters in
    let keys = keys_of c.in_ok-filters.filters.0.entries in
    let names = are_names read.0 c.in_ok-filters.filters read.2 (c.in_ok-filters.ensures.read_back read.0 read.2) in
    let few : length (map string_bytes keys) ≤ c.args.index =
    subst (λ (n : ℕ). n ≤ c.args.index) (sym (length-map keys string_bytes)) c.in-None.ensures.none in
    (read.0, read.1, (map string_bytes keys, names, few))
