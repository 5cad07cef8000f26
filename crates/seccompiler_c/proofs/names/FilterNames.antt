-- For `name_of`: the names of a text's filters are the keys of their map, and why there are none.
use Rattle.std.proofs.Common.{ℕ, List, String, Global, string_bytes, map, sym, subst}
use Rattle.std.specs.Map.{keys_of}
use Rattle.std.proofs.lemmas.List.Elements.{All-contains, All-map, All-weaker}
use Rattle.std.proofs.lemmas.Simd.{map-map}
use Rattle.serde_json.specs.Data.{Data}
use Rattle.seccompiler.specs.JsonAnswers.{TellsFrontendFault}
use Rattle.seccompiler.specs.JsonFilters.{IsReadBack}
use Rattle.seccompiler.specs.JsonShape.{Has, Under, IsFilter}
use Rattle.seccompiler.specs.JsonSteps.{AreFilters, IsBeforePolicies, IsNoFailedRead}
use Rattle.seccompiler.specs.JsonTypes.{JsonFilter}
use Rattle.seccompiler.specs.declared.backend.TargetArch.{TargetArch}
use Rattle.seccompiler.specs.declared.json.error.JsonFrontendError.{JsonFrontendError}
use Rattle.seccompiler.specs.declared.json.error.JsonFrontendError.TheVariants as frontend
use Rattle.seccompiler.specs.declared.json.types.JsonFilterMap.{JsonFilterMap}
use Rattle.seccompiler_c.specs.Names.{AreNames, IsUnnamed}
use Rattle.seccompiler_c.specs.Policies.{from_frontend}

-- A filter with its name.
abbrev Entry : Type 0
Entry = String Global × JsonFilter

-- The value has this name.
abbrev IsThere : Data → List ℕ → Type 0
IsThere d name = (value : Data) × Has d name value

-- The names of the map are those of the value.
pub are_names : (d : Data) (filters : JsonFilterMap) → AreFilters d filters → IsReadBack IsFilter filters.0 d
    → AreNames d (map string_bytes (keys_of filters.0.entries))
are_names d filters are back =
    let entries : List Entry = filters.0.entries in
    let name_of : Entry → List ℕ = λ e. string_bytes e.0 in
    let named = All-map (IsThere d) name_of entries
    (All-weaker (λ (e : Entry). Under d (name_of e) (λ value. IsFilter value e.1)) (λ (e : Entry). IsThere d (name_of e))
    (λ e under. (under.0, under.1)) entries back.entries.each) in
    subst (AreNames d) (sym (map-map string_bytes (λ (e : Entry). e.0) entries)) (record {
      filters = record { is_object = are.is_object; each = λ name value has. let own = are.each name value has in (own.found, own.own) };
      ascending = back.entries.ordered;
      each = λ name. (
        All-contains (IsThere d) (map name_of entries) name named,
        λ has. back.entries.complete name has.0 has.1,
      );
    })

-- What the front end refuses of a text before it looks for policies is that it is none of filters, or lack of memory.
pub shape_refused : (text : List ℕ) (index : ℕ) (e : JsonFrontendError) → ((target : TargetArch) → TellsFrontendFault target text e)
    → IsBeforePolicies e → IsNoFailedRead e → IsUnnamed text index (from_frontend e)
shape_refused text index (frontend.Read cause) tells before none = absurd none
shape_refused text index frontend.OutOfMemory tells before none = tt
shape_refused text index _ tells before none = (before, tells)
