use Rattle.std.proofs.Common.{◌≡◌, ◌∷◌, ◌++◌, [], sym, ap, ◌∙◌, append_assoc}
use Rattle.seccompc.proofs.Policies.{Entry}
use Rattle.seccompc.proofs.program_text.Listings.{listing_more}
use Rattle.seccompc.proofs.program_text.listing.Goals as goal

pub loop-name-preserved : goal.loop-name-preserved
loop-name-preserved c =
    let l = c.loop-name in
    let done = l.invariant.0 in
    let e : Entry = (c.in-Some.name.now, c.in-Some.program.now) in
    let left = c.next.new.self in
    let all : c.args.programs.now.entries ≡ done ++ e ∷ left = l.invariant.1 ∙ ap (λ es. done ++ es) c.in-Some.ensures.steps in (
      done ++ e ∷ [],
      all ∙ sym (append_assoc done (e ∷ []) left),
      listing_more done e c.as_str.result.now c.deref.result.now
          l.text.items c.push_listing.new.text.items l.invariant.2 c.in_ok-push_listing.ensures c.as_str.ensures.value
          c.deref.ensures.value,
    )
