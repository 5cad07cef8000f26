use Rattle.std.proofs.Common.{◌≡◌, map, drop, string_bytes}
use Rattle.std.specs.List.{list_any}
use Rattle.std.specs.Str.{bytes_eq}
use Rattle.seccomp_profiles.proofs.scope.is_listed.Given as goal

abbrev pub invariant-loop-one : goal.invariant-loop-one
invariant-loop-one l =
    list_any (bytes_eq l.text) (map string_bytes (drop l.one-index l.texts)) ≡ list_any (bytes_eq l.text) (map string_bytes l.texts)
