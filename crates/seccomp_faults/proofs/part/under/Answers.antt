use Rattle.std.proofs.Common.{◌≡◌, Some, string_bytes, sym, subst}
use Rattle.serde_json.specs.Find.{get}
use Rattle.seccomp_faults.specs.Table.{IsUnder}
use Rattle.seccomp_faults.proofs.Parts.{view}
use Rattle.seccomp_faults.proofs.part.under.Goals as goal

pub returns : goal.returns
returns c = λ outer d is there.
    let same : c.args.key.now ≡ string_bytes c.in_ok-key.key = sym c.in_ok-key.ensures.ok in
    (subst (λ key. IsUnder outer key c.args.form) same is, subst (λ key. get key d ≡ Some (view c.args.value.now)) same there)
