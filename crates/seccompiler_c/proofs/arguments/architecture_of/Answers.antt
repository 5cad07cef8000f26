use Rattle.std.proofs.Common.{◌≡◌, ◌∙◌, ◌+◌, ◌<◌, ℕ, List, All, take, length, get_or, sym}
use Rattle.std.proofs.lemmas.List.{take_all}
use Rattle.std.proofs.lemmas.List.Elements.{All-more, All-same, All-contains}
use Rattle.seccompiler.specs.Architecture.{audit_word}
use Rattle.seccompiler.specs.declared.backend.TargetArch.{TargetArch}
use Rattle.seccompiler_c.specs.Arguments.{IsArchitecture}
use Rattle.seccompiler_c.proofs.arguments.architecture_of.Goals as goal

abbrev IsOther : ℕ → TargetArch → Type 0
IsOther word target = IsArchitecture word target → ⊥

-- the next architecture's word is another too
one_more : (word own : ℕ) (targets : List TargetArch) (i : ℕ) (d : TargetArch) → i < length targets → All (IsOther word) (take i targets)
    → own ≡ audit_word (get_or targets i d) → (own ≡ word → ⊥)
    → All (IsOther word) (take (i + 1) targets)
one_more word own targets i d within so_far is other = All-more (IsOther word) targets i d within so_far (λ same. other (is ∙ sym same))

pub loop-target-preserved : goal.loop-target-preserved
loop-target-preserved c =
    one_more c.args.word c.get_audit_value.result c.all-targets.result.now c.loop-target.target-index _ c.loop-target-test.true
    c.loop-target.invariant c.get_audit_value.ensures c.if-get_audit_value-word.false

pub returns-clause-not_found : goal.returns-clause-not_found
returns-clause-not_found c = λ target is.
    let targets = c.all-targets.result.now in
    let none = All-same (IsOther c.args.word) targets _ (sym (take_all c.loop-target.target-index targets c.loop-target-test.false))
    c.loop-target.invariant in
    All-contains (IsOther c.args.word) targets target none (c.all-targets.ensures.each target) is
