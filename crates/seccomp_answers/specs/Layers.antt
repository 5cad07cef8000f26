-- What holds together: the programs of layers, and what these decide together.
use Rattle.std.specs.Prelude.{ℕ, List, Vec}
use Rattle.std.specs.List.{AllZip}
use Rattle.std.specs.declared.alloc.Global.{Global}
use Rattle.seccompiler.specs.declared.backend.TargetArch.{TargetArch}
use Rattle.seccompiler.specs.declared.bpf.sock_filter.{sock_filter}
use Rattle.seccomp_answers.specs.declared.explain.Explanation.{Explanation}
use Rattle.seccomp_answers.specs.declared.kind.Reading.{Reading}
use Rattle.seccomp_answers.specs.declared.layers.Layer.{Layer}
use Rattle.seccomp_answers.specs.declared.sides.Side.{Side}
use Rattle.seccomp_answers.specs.Chosen.{text_of}
use Rattle.seccomp_answers.specs.Explain.{IsOfStack}
use Rattle.seccomp_answers.specs.Sides.{IsProgramFor, IsSideOf}

-- The program is that of a layer.
pub record IsLayer (target : TargetArch) (reading : Reading) (layer : Layer) (program : Vec sock_filter Global) : Type 0 where
  pub side : Side
  pub of_layer : IsSideOf reading layer.filter layer.text.items side
  pub is : IsProgramFor target side.kind (text_of side.filter) side.given.now program.items

-- What is decided on the records is what the kernel makes of the programs of all layers.
pub record IsStackExplained (target : TargetArch) (reading : Reading) (layers : List Layer) (records : List (List ℕ))
    (e : Explanation) : Type 0 where
  pub programs : List (Vec sock_filter Global)
  pub each : AllZip (IsLayer target reading) layers programs
  pub decided : AllZip (IsOfStack target programs) records e.records.items
