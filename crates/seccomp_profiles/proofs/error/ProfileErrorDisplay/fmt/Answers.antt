use Rattle.std.proofs.Common.{ℕ, List, ◌++◌, codes, refl}
use Rattle.seccomp_profiles.proofs.error.ProfileErrorDisplay.fmt.Goals as goal

pub returns-in-Json-clause-text : goal.returns-in-Json-clause-text
returns-in-Json-clause-text g c plain ok =
    let words : List ℕ = c.as_str.result.now in
    rw c.in-Json.is (codes "Error parsing Json: " ++ words, (words, refl), c.write.ensures.writes plain ok)
