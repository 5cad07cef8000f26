-- The names of a table are ASCII, so that no other name is there.
use Rattle.std.proofs.Common.{◌≢◌, ◌<◌, ℕ, List, All, subst}
use Rattle.std.specs.Str.{IsUtf8}
use Rattle.std.proofs.lemmas.List.Elements.{All-weaker}
use Rattle.std.proofs.lemmas.Str.{IsUtf8-from_ascii}
use Rattle.std.proofs.lemmas.Str.Ascii.{IsAscii-from_all}
use Rattle.seccompiler.specs.SyscallTable.{Pair, IsCallTable}

-- A name that is no UTF-8 is no call's.
pub no_call : (table : List Pair) (name : List ℕ) → IsCallTable table → (IsUtf8 name → ⊥) → All (λ pair. pair.0 ≢ name) table
no_call table name is none =
    All-weaker (λ pair. All (λ byte. byte < 128) pair.0) (λ pair. pair.0 ≢ name)
    (λ pair ascii same. none (subst IsUtf8 same (IsUtf8-from_ascii pair.0 (IsAscii-from_all pair.0 ascii)))) table is.ascii
