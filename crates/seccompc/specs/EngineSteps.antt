-- What the private steps of the engines promise each other.
use Rattle.std.specs.Prelude.{◌≡◌, ℕ, ℤ, ◌≤◌, List, String, Vec}
use Rattle.std.specs.BTreeMap.{BTreeMap, get_by_text}
use Rattle.std.specs.declared.alloc.Global.{Global}
use Rattle.serde_json.specs.Data.{Data}
use Rattle.seccompiler.specs.declared.backend.TargetArch.{TargetArch}
use Rattle.seccompiler.specs.declared.bpf.sock_filter.{sock_filter}
use Rattle.seccompiler.specs.Policy.{Filter}
use Rattle.seccompiler.specs.Compiled.{IsCompiled}
use Rattle.seccompiler.specs.JsonFilters.{IsReadBack}
use Rattle.seccompiler.specs.JsonPrograms.{IsProgramOf, AreProgramsOf}
use Rattle.seccompc.specs.Faults.{IsNameOf}
use Rattle.seccompc.specs.Probe.{probe_filter, IsProbeFaultless}

-- The filter is the one that words without the first two faults ask for.
pub record IsFilterFor (arch : List ℕ) (nr : ℤ) (index value : ℕ) (f : Filter) : Type 0 where
  pub target : TargetArch
  pub named : IsNameOf arch target
  pub argument : index ≤ 5
  pub filter : f ≡ probe_filter target nr index value

-- The program is compiled for the filter that words without a fault ask for.
pub record IsCompiledFor (arch : List ℕ) (nr : ℤ) (index value : ℕ) (program : List sock_filter) : Type 0 where
  pub faultless : IsProbeFaultless arch nr index
  pub compiled : IsCompiled (probe_filter faultless.target nr index value) program

-- A policy's programs under the names of their filters.
abbrev pub Programs : Type 0
Programs = BTreeMap (String Global) (Vec sock_filter Global)

-- The map has the programs of the value, name by name and entry by entry.
pub record HasPrograms (target : TargetArch) (programs : Programs) (d : Data) : Type 0 where
  pub under_names : AreProgramsOf target (get_by_text programs) d
  pub read_back : IsReadBack (λ value program. IsProgramOf target value program.items) programs d
