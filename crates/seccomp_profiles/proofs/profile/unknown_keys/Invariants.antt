use Rattle.std.proofs.Common.{◌≡◌, ◌++◌, map, string_bytes}
use Rattle.std.specs.List.{filter}
use Rattle.serde_json.specs.View.{members_view}
use Rattle.seccomp_profiles.specs.ProfileShape.{is_unknown, keys_of}
use Rattle.seccomp_profiles.proofs.profile.unknown_keys.Given as goal

-- the keys so far, and those that are left
abbrev pub invariant-loop-key : goal.invariant-loop-key
invariant-loop-key l = map string_bytes l.found.items ++ filter is_unknown (keys_of (members_view l.key-iterator))
    ≡ filter is_unknown (keys_of (members_view l.members.entries))
