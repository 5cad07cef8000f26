use Rattle.std.proofs.Common.{◌≡◌, map, drop, string_bytes}
use Rattle.std.specs.List.{list_any}
use Rattle.std.specs.Str.{bytes_eq}
use Rattle.seccomp_profiles.proofs.scope.is_any_among.Given as goal

abbrev pub invariant-loop-text : goal.invariant-loop-text
invariant-loop-text l = list_any (λ text. list_any (bytes_eq text) (map string_bytes l.names))
    (map string_bytes (drop l.text-index l.texts))
    ≡ list_any (λ text. list_any (bytes_eq text) (map string_bytes l.names)) (map string_bytes l.texts)
