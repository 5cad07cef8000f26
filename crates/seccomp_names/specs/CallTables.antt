-- Names and numbers of the calls of 32-bit programs.
use Rattle.std.specs.Prelude.{ℕ, List, eqb}
use Rattle.std.specs.List.{slice_split, zip}
use Rattle.seccomp_names.specs.declared.call_table.CallTable.{CallTable}
use Rattle.seccomp_names.specs.declared.call_table.CallTable.TheVariants.{I386, X32, Socketcall, Ipc}
use Rattle.seccomp_names.specs.declared.i386.TheConstants.{I386_NAMES, I386_NUMBERS}
use Rattle.seccomp_names.specs.declared.ipc.TheConstants.{IPC_NAMES, IPC_NUMBERS}
use Rattle.seccomp_names.specs.declared.socketcall.TheConstants.{SOCKETCALL_NAMES, SOCKETCALL_NUMBERS}
use Rattle.seccomp_names.specs.declared.x32.TheConstants.{X32_NAMES, X32_NUMBERS}

-- The words of a text, each up to the next space.
abbrev pub words : List ℕ → List (List ℕ)
words text = slice_split (λ byte. eqb byte 32) text

-- Each name, as bytes, with its number (asm/unistd_32.h, asm/unistd_x32.h, linux/net.h and linux/ipc.h of Linux).
unfoldable pub pairs_of : CallTable → List (List ℕ × ℕ)
pairs_of I386 = zip (words I386_NAMES.now) I386_NUMBERS
pairs_of X32 = zip (words X32_NAMES.now) X32_NUMBERS
pairs_of Socketcall = zip (words SOCKETCALL_NAMES.now) SOCKETCALL_NUMBERS
pairs_of Ipc = zip (words IPC_NAMES.now) IPC_NUMBERS

-- All numbers of a table are below this one.
abbrev pub end_of : CallTable → ℕ
end_of I386 = 463
end_of X32 = 548
end_of Socketcall = 21
end_of Ipc = 25
