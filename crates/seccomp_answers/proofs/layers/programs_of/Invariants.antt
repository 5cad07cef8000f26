use Rattle.std.proofs.Common.{All, Global, Vec, take}
use Rattle.std.specs.List.{AllZip}
use Rattle.seccomp_compare.specs.Machine.{IsChecked}
use Rattle.seccompiler.specs.declared.bpf.sock_filter.{sock_filter}
use Rattle.seccomp_answers.proofs.layers.programs_of.Given as goal
use Rattle.seccomp_answers.specs.Layers.{IsLayer}

-- the layers so far have their programs
abbrev pub invariant-loop-layer : goal.invariant-loop-layer
invariant-loop-layer l = AllZip (IsLayer l.target l.reading) (take l.layer-index l.layers) l.programs.items
    × All (λ (p : Vec sock_filter Global). IsChecked p.items) l.programs.items
