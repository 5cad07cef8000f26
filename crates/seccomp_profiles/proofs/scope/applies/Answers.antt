use Rattle.std.proofs.Common.{ap, map, not, string_bytes, rules}
use Rattle.seccomp_profiles.proofs.scope.Tests.{all_tested, applies_tested, none_tested}
use Rattle.seccomp_profiles.proofs.scope.applies.Goals as goal

pub returns : goal.returns
returns c =
    let all = all_tested _ _ _ c.are_all_among.ensures in
    let none = none_tested _ _ _ (ap not c.is_any_among.ensures) in
    applies_tested c.args.arch c.args.container.now c.args.entry.now _ _ _ _ _ _
    (map string_bytes c.as_slice-caps.result.now) (map string_bytes c.as_slice.result.now) (map string_bytes c.as_slice-2.result.now)
    (map string_bytes c.as_slice-caps.result.now) (map string_bytes c.as_slice-3.result.now) (map string_bytes c.as_slice-4.result.now)
    c.go_name-name.result.now c.container.inside.kernel c.are_five.ensures all c.is_included.ensures
    none c.has_text.ensures c.is_for_kernel.ensures c.go_name-name.ensures (search rules) (search rules) (search rules)
    (search rules) (search rules) (search rules) (search rules)
