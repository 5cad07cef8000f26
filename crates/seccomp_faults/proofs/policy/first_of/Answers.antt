use Rattle.std.proofs.Common.{◌≡◌, refl, sym, ◌∙◌, rules}
use Rattle.std.specs.Cmp.Rules.{comparing}
use Rattle.std.proofs.lemmas.Option.{slice_get_read}
use Rattle.seccomp_faults.proofs.policy.first_of.Goals as goal

pub returns-then-eq : goal.returns-then-eq
returns-then-eq c =
    let fault = c.index-faults-place in
    let same : c.cause_of.result ≡ c.args.cause = search (comparing, rules) in (
      fault.result,
      slice_get_read c.args.faults.now _ c.loop-place.place fault.result refl c.loop-place-test.true fault.is,
      sym c.cause_of.ensures ∙ same,
    )
