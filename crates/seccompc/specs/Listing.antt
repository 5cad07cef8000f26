-- What the program writes for a policy: the listing of each filter's program.
use Rattle.std.specs.Prelude.{◌≡◌, ℕ, List, String, Vec, string_bytes}
use Rattle.std.specs.List.{flat_map}
use Rattle.std.specs.declared.alloc.Global.{Global}
use Rattle.serde_json.specs.Data.{Data}
use Rattle.seccompiler.specs.declared.bpf.sock_filter.{sock_filter}
use Rattle.seccompiler.specs.declared.backend.TargetArch.{TargetArch}
use Rattle.seccompiler.specs.JsonFilters.{AreNamed}
use Rattle.seccompiler.specs.JsonPrograms.{IsProgramOf}
use Rattle.seccomp_text.specs.Listing.{NamedProgram, listing_of}

-- An entry of an ordered map of programs, seen so.
abbrev pub named_program : String Global × Vec sock_filter Global → NamedProgram
named_program entry = (string_bytes entry.0, entry.1.items)

-- The text is, for each name of the value in byte order, the listing of a program that is compiled for the name's
-- policy.
pub record Listed (target : TargetArch) (d : Data) (text : List ℕ) : Type 0 where
  pub programs : List NamedProgram
  pub named : AreNamed (λ p. p.0) (λ p value. IsProgramOf target value p.1) d programs
  pub listings : text ≡ flat_map listing_of programs
