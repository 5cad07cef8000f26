-- Whose calls a profile is asked about: an architecture's own, or those of 32-bit programs on x86_64.
use Rattle.std.specs.Prelude.{◌≡◌, ◌↔◌, ◌≤◌, ◌+◌, ◌==◌, ◌&&◌, ℕ, ℤ, pos, List, Bool, true, IsTrue, Option, nat_le, option_map}
use Rattle.std.specs.Map.{lookup}
use Rattle.std.specs.Str.{bytes_eq}
use Rattle.seccompiler.specs.declared.backend.SeccompCmpArgLen.{SeccompCmpArgLen}
use Rattle.seccompiler.specs.declared.backend.SeccompCmpArgLen.TheVariants.{Dword, Qword}
use Rattle.seccompiler.specs.declared.backend.TargetArch.{TargetArch}
use Rattle.seccompiler.specs.declared.backend.TargetArch.TheVariants.{x86_64}
use Rattle.seccompiler.specs.Architecture.{audit_word, table_of}
use Rattle.seccompiler.specs.Machine.{argument_at, word_at}
use Rattle.seccompiler.specs.SyscallTable.{number_of}
use Rattle.seccomp_names.specs.CallTables.{pairs_of}
use Rattle.seccomp_names.specs.declared.call_table.CallTable.TheVariants as table
use Rattle.seccomp_profiles.specs.declared.types.Abi.{Abi}
use Rattle.seccomp_profiles.specs.declared.types.Abi.TheVariants.{I386, Native, X32}
use Rattle.seccomp_profiles.specs.Types.{Profile}

-- The architecture of the machine.
abbrev pub machine_of : Abi → TargetArch
machine_of (Native arch) = arch
machine_of I386 = x86_64
machine_of X32 = x86_64

-- The number of the call of a name. Those of x32 have bit 30 (asm/unistd.h).
abbrev pub number_for : Abi → List ℕ → Option ℤ
number_for (Native arch) name = number_of (table_of arch) name
number_for I386 name = option_map pos (lookup (bytes_eq name) (pairs_of table.I386))
number_for X32 name = option_map (λ n. pos (0x40000000 + n)) (lookup (bytes_eq name) (pairs_of table.X32))

-- All of these numbers are below this one.
abbrev pub end_for : Abi → ℕ
end_for (Native arch) = 463
end_for I386 = 463
end_for X32 = 0x40000224

-- What is compared of an argument: of 32-bit programs the low 32 bits (libseccomp, as their architectures have 32 bits).
abbrev pub length_for : Abi → SeccompCmpArgLen
length_for (Native arch) = Qword
length_for I386 = Dword
length_for X32 = Dword

-- The profile lists the architecture. That of the machine needs no list.
abbrev pub is_listed : Abi → Profile → Bool
is_listed (Native arch) p = true
is_listed I386 p = p.lists_x86
is_listed X32 p = p.lists_x32

-- The word of the architecture in a record (AUDIT_ARCH_I386 of linux/audit.h).
abbrev pub audit_of : Abi → ℕ
audit_of (Native arch) = audit_word arch
audit_of I386 = 0x40000003
audit_of X32 = audit_word x86_64

-- Whether a number is one of these: of x32 it has bit 30, or is greater.
abbrev pub has_number : Abi → ℕ → Bool
has_number X32 n = nat_le 0x40000000 n
has_number abi n = true

-- Whether a record is of a call of these.
abbrev pub is_of : Abi → List ℕ → Bool
is_of abi r = (word_at r 4 == audit_of abi) && has_number abi (word_at r 0)

-- The second record is of the machine's own architecture exactly if the first is of a call of these, and is the same call.
pub record IsSeenAs (abi : Abi) (r seen : List ℕ) : Type 0 where
  pub number : word_at seen 0 ≡ word_at r 0
  pub arguments : (i : ℕ) → i ≤ 5 → argument_at seen i ≡ argument_at r i
  pub own : (word_at seen 4 ≡ audit_word (machine_of abi)) ↔ IsTrue (is_of abi r)
