-- What is said of each architecture: its name, its word and its table of system calls.
use Rattle.std.specs.Prelude.{ℕ, List, codes}
use Rattle.seccomp_tables.specs.Tables.{Pair, x86_64_pairs, aarch64_pairs, riscv64_pairs}
use Rattle.seccompiler.specs.declared.backend.TargetArch.{TargetArch}
use Rattle.seccompiler.specs.declared.backend.TargetArch.TheVariants.{x86_64, aarch64, riscv64}

-- The name of an architecture.
abbrev pub arch_text : TargetArch → List ℕ
arch_text x86_64 = codes "x86_64"
arch_text aarch64 = codes "aarch64"
arch_text riscv64 = codes "riscv64"

-- The word of an architecture in a call record (linux/audit.h).
abbrev pub audit_word : TargetArch → ℕ
audit_word x86_64 = 0xc000003e
audit_word aarch64 = 0xc00000b7
audit_word riscv64 = 0xc00000f3

-- The table of an architecture: the pairs that the Rust crate seccompiler has for it, in byte order of names.
abbrev pub table_of : TargetArch → List Pair
table_of x86_64 = x86_64_pairs
table_of aarch64 = aarch64_pairs
table_of riscv64 = riscv64_pairs
