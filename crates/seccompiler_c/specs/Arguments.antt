-- What the words of a caller in C name.
use Rattle.std.specs.Prelude.{◌≡◌, ℕ}
use Rattle.seccompiler.specs.Architecture.{audit_word}
use Rattle.seccompiler.specs.declared.backend.TargetArch.{TargetArch}
use Rattle.seccomp_tree.specs.declared.layout.Layout.{Layout}
use Rattle.seccomp_tree.specs.declared.layout.Layout.TheVariants.{Linear, Tree}

-- The word is that of an architecture (linux/audit.h).
abbrev pub IsArchitecture : ℕ → TargetArch → Type 0
IsArchitecture word target = word ≡ audit_word target

-- The word is no architecture's.
abbrev pub IsNoArchitecture : ℕ → Type 0
IsNoArchitecture word = (target : TargetArch) → IsArchitecture word target → ⊥

-- The word is that of an architecture, for which P holds.
abbrev pub OfArchitecture : ℕ → (TargetArch → Type 0) → Type 0
OfArchitecture word P = (target : TargetArch) × IsArchitecture word target × P target

-- The number of a layout.
abbrev pub layout_number : Layout → ℕ
layout_number Linear = 0
layout_number Tree = 1

-- The number is that of a layout.
abbrev pub IsLayout : ℕ → Layout → Type 0
IsLayout number layout = number ≡ layout_number layout

-- The number is no layout's.
abbrev pub IsNoLayout : ℕ → Type 0
IsNoLayout number = (layout : Layout) → IsLayout number layout → ⊥

-- The number is that of a layout, for which P holds.
abbrev pub OfLayout : ℕ → (Layout → Type 0) → Type 0
OfLayout number P = (layout : Layout) × IsLayout number layout × P layout
