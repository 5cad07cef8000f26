use Rattle.std.proofs.Common.{ap, ◌∙◌, subst}
use Rattle.seccomp_profiles.specs.Decision.{rank, rank_by, tested}
use Rattle.seccomp_profiles.specs.Abis.{length_for}
use Rattle.seccomp_profiles.specs.Concerns.{AreListsOf}
use Rattle.seccomp_profiles.specs.Types.{Entry}
use Rattle.seccomp_profiles.proofs.concerns.Conditions.{lists_of}
use Rattle.seccomp_profiles.proofs.concerns.concern_of.Goals as goal

pub returns : goal.returns
returns c =
    let args = c.tested-args.ensures.value ∙ ap tested (c.as_slice.ensures.value ∙ ap (λ (e : Entry). e.args) c.entry.view_is) in
    record {
      numbers = c.in_ok-numbers.ensures;
      action = ap (λ (e : Entry). e.action) c.entry.view_is;
      rank = c.rank.ensures.value ∙
          ap (λ args. rank_by args c.entry.inside.action) (c.tested-args.ensures.value ∙ ap tested c.as_slice.ensures.value)
          ∙ ap rank c.entry.view_is;
      alternatives = subst (λ args. AreListsOf (length_for c.args.abi) args (lists_of c.in_ok-alternatives.alternatives.items)) args
          (subst (λ len. AreListsOf len c.tested-args.result.now
          (lists_of c.in_ok-alternatives.alternatives.items)) c.arg_len.ensures c.in_ok-alternatives.ensures);
    }
