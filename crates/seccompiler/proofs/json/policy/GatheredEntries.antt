-- For `gather`: what is gathered of entries, one after the other.
use Rattle.std.proofs.Common.{◌≡◌, ℕ, ◌+◌, ◌<◌, ◌++◌, length, take, get_or, List, [], ◌∷◌, None, All, replicate, false, sym, ap, ◌∙◌, subst}
use Rattle.std.proofs.Common.{append-nil, arith}
use Rattle.std.proofs.lemmas.List.{flat_map_more, take_more}
use Rattle.std.proofs.lemmas.List.Elements.{All-push}
use Rattle.std.proofs.lemmas.List.Folds.{list_any-append}
use Rattle.seccompiler.specs.declared.backend.TargetArch.{TargetArch}
use Rattle.seccompiler.specs.declared.json.error.JsonFrontendError.{JsonFrontendError}
use Rattle.seccompiler.specs.declared.json.policy.Gathered.{Gathered}
use Rattle.seccompiler.specs.JsonTypes.{JsonRule}
use Rattle.seccompiler.specs.JsonGathered.{added, told_of, HasAdded, AreGathered}
use Rattle.seccompiler.specs.JsonSteps.{Tells}
use Rattle.seccompiler.specs.Policy.{chains_of}
use Rattle.seccompiler.proofs.Parts.{around}
use Rattle.seccompiler.proofs.json.policy.EntryFaults.{first_wrong}
use Rattle.seccompiler.proofs.json.policy.EntryChains.{Pairs}
use Rattle.seccompiler.proofs.json.policy.ToldNumbers.{told_none}
use Rattle.seccompiler.specs.JsonPolicyOf.{chain_at, is_always, rules_for, IsFaultOf, IsFineEntry, IsFirstOf}

-- Items added at two times are added as one list.
pub added_twice : {X : Type 0} (front own : List X) → added own (added front None) ≡ added (front ++ own) None
added_twice {X} front own = grind (arith, append-nil {A = X})

-- What was gathered of some entries, and of one more behind them.
gathered_push : (arch : TargetArch) (entries : List JsonRule) (entry : JsonRule) (old new : Gathered)
    → AreGathered arch entries old → HasAdded arch entry old new → AreGathered arch (entries ++ entry ∷ []) new
gathered_push arch entries entry old new so_far more = record {
  rules = λ number. more.rules number ∙ ap (added (rules_for arch number entry)) (so_far.rules number) ∙ added_twice _ _
      ∙ ap (λ rules. added rules None) (flat_map_more (rules_for arch number) [] entries entry);
  always = λ number. grind (arith, list_any-append (is_always arch number) entries (entry ∷ []), more.always number, so_far.always number);
}

-- Nothing is wrong with these entries, and this was gathered of them.
pub record AreDone (arch : TargetArch) (entries : List JsonRule) (made : Gathered) : Type 0 where
  pub fine : All (IsFineEntry arch) entries
  pub gathered : AreGathered arch entries made
  pub long : length made.always ≡ 463

-- The next entry, by its place and as it was named.
module _ (arch : TargetArch) (entries : List JsonRule) (k : ℕ) (entry named : JsonRule) (old : Gathered) (within : k < length entries)
    (is : entry ≡ get_or entries k entry) (same : named ≡ entry) (so_far : AreDone arch (take k entries) old) where
  pub next_done : (new : Gathered) → length new.always ≡ 463 → IsFineEntry arch named → HasAdded arch named old new
      → AreDone arch (take (k + 1) entries) new
  next_done new long fine more =
      subst (λ (es : List JsonRule). AreDone arch es new)
      (ap (λ (x : JsonRule). take k entries ++ x ∷ []) is ∙ sym (take_more entries k entry within))
      (record {
        fine = All-push (IsFineEntry arch) (take k entries) entry so_far.fine (subst (IsFineEntry arch) same fine);
        gathered = gathered_push arch (take k entries) entry old new so_far.gathered
            (subst (λ (e : JsonRule). HasAdded arch e old new) same more);
        long = long;
      })

  pub next_wrong : (error : JsonFrontendError) → Tells (IsFaultOf arch named) error → Tells (IsFirstOf arch entries) error
  next_wrong error told = first_wrong arch entries (take k entries) entry _ (around entries k entry within is) error so_far.fine
      (subst (λ (e : JsonRule). Tells (IsFaultOf arch e) error) same told)

-- Nothing is gathered of no entries.
pub none_gathered : (arch : TargetArch) (made : Gathered) → made.rules.entries ≡ [] → made.always ≡ replicate 463 false
    → AreGathered arch [] made
none_gathered arch made no_rules nothing = record {
  rules = λ number. ap (λ (entries : Pairs). chain_at (chains_of entries) number) no_rules;
  always = λ number. ap (λ told. told_of told number) nothing ∙ told_none 463 number;
}
