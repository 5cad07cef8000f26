-- What the programs of a policy mean for the answers of the engines.
use Rattle.std.proofs.Common.{◌≡◌, ℕ, List, Option, Some, None, String, Vec, Global, Contains, string_bytes, nat_cmp, map, sym, subst}
use Rattle.std.specs.BTreeMap.{get_by_text}
use Rattle.std.specs.Cmp.Lexicographic.{slice_cmp}
use Rattle.std.specs.List.{flat_map}
use Rattle.std.specs.List.Sorted.{IsStrictlySortedBy}
use Rattle.std.proofs.lemmas.List.Elements.{All-map}
use Rattle.std.proofs.lemmas.Simd.{map-map}
use Rattle.serde_json.specs.Data.{Data}
use Rattle.seccompiler.specs.declared.backend.TargetArch.{TargetArch}
use Rattle.seccompiler.specs.declared.bpf.sock_filter.{sock_filter}
use Rattle.seccompiler.specs.Compiled.{IsCompiled}
use Rattle.seccompiler.specs.JsonAnswers.{HasPolicy}
use Rattle.seccompiler.specs.JsonFilters.{AreAll}
use Rattle.seccompiler.specs.JsonPrograms.{IsProgramOf}
use Rattle.seccompiler.specs.JsonShape.{Under, Lacks}
use Rattle.seccompiler.specs.Policy.{Filter}
use Rattle.seccomp_text.specs.Listing.{NamedProgram, listing_of}
use Rattle.seccompc.specs.EngineSteps.{Programs, HasPrograms}
use Rattle.seccompc.specs.Faults.{OfPolicy}
use Rattle.seccompc.specs.Listing.{named_program, Listed}
use Rattle.seccompc.specs.Policies.{HasSomeProgram, IsFaultless, OfFilter, IsListing}
use Rattle.seccompc.proofs.Readings.{policy_shows}

-- A program with its name.
abbrev pub Entry : Type 0
Entry = String Global × Vec sock_filter Global

-- The names of programs in a map.
names_of : (entries : List Entry)
    → map (λ (p : NamedProgram). p.0) (map named_program entries) ≡ map (λ (e : Entry). string_bytes e.0) entries
names_of entries = map-map (λ (p : NamedProgram). p.0) named_program entries

module _ (arch : List ℕ) (known : Option (List ℕ)) (programs : Programs)
    (h : OfPolicy arch known (λ target. HasPrograms target programs)) where
  -- Nothing is at fault if the programs are there, and P holds too.
  faultless : (P : TargetArch → Data → Type 0) → ((target : TargetArch) (d : Data) → HasPrograms target programs d → P target d)
      → IsFaultless arch known P
  faultless P shows =
      policy_shows arch known (λ target. HasPrograms target programs) (λ target d. AreAll (HasSomeProgram target) d × P target d)
      (λ target d has. (
        record {
          is_object = has.under_names.is_object;
          each = λ name value there. let own = has.under_names.each name value there in (own.found.items, own.own);
        },
        shows target d has,
      )) h

  -- If nothing is found under a name, no filter has it.
  pub no_filter_named : (name : List ℕ) → get_by_text programs name ≡ None → IsFaultless arch known (λ target d. Lacks d name)
  no_filter_named name none = faultless (λ target d. Lacks d name) (λ target d has. has.read_back.nowhere name none)

  -- A program that is found is compiled for the filter of its name.
  pub filter_found : (name : List ℕ) (program : Vec sock_filter Global) → get_by_text programs name ≡ Some program
      → (P : Filter → Type 0) → ((policy : Filter) → IsCompiled policy program.items → P policy) → OfFilter arch known name P
  filter_found name program found P shows =
      faultless (λ target d. Under d name (λ value. (policy : Filter) × HasPolicy target value policy × P policy)) (λ target d has.
      let value = has.read_back.there name program found in
      (value.0, value.1, (value.2.policy, value.2.is_policy, shows value.2.policy value.2.compiled)))

  -- The listing of the programs is the policy's.
  pub listed : (text : List ℕ) → text ≡ flat_map listing_of (map named_program programs.entries) → IsListing arch known text
  listed text is = faultless (λ target d. Listed target d text) (λ target d has.
      let entries = has.read_back.entries in
      let names = sym (names_of programs.entries) in
      record {
        programs = map named_program programs.entries;
        named = record {
          ordered = subst (IsStrictlySortedBy (slice_cmp nat_cmp)) names entries.ordered;
          each = All-map (λ (p : NamedProgram). Under d p.0 (λ value. IsProgramOf target value p.1)) named_program programs.entries
              entries.each;
          complete = λ name value has. subst (λ ns. Contains ns name) names (entries.complete name value has);
        };
        listings = is;
      })
