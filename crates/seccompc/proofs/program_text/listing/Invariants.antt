use Rattle.std.proofs.Common.{◌≡◌, List, ◌++◌}
use Rattle.seccompc.proofs.Policies.{Entry}
use Rattle.seccompc.proofs.program_text.Listings.{listings}
use Rattle.seccompc.proofs.program_text.listing.Given as goal

abbrev pub invariant-loop-name : goal.invariant-loop-name
invariant-loop-name l = (done : List Entry) × (l.programs.entries ≡ done ++ l.name-iterator) × (l.text.items ≡ listings done)
