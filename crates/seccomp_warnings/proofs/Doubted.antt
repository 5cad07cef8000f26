-- For the functions of `doubts`: what entries of a list say of the profile that they are of.
use Rattle.std.proofs.Common.{◌≡◌, ◌≢◌, ◌<◌, ℕ, zero, suc, List, [], ◌∷◌, None, get_or, length, refl, sym, subst, ap}
use Rattle.std.proofs.Common.{◌∙◌, All, Contains, arith}
use Rattle.std.specs.Prelude.{Any, IsSomeAnd, Option, Some, slice_get}
use Rattle.std.proofs.lemmas.Option.{get_or_from_slice_get, slice_get_within}
use Rattle.std.proofs.lemmas.Bool.{false≢true}
use Rattle.std.proofs.lemmas.List.Elements.{All-nil}
use Rattle.seccomp_entries.specs.declared.entry.Action.{Action}
use Rattle.seccompiler.specs.declared.backend.TargetArch.{TargetArch}
use Rattle.seccompiler.specs.Machine.{word_at}
use Rattle.seccompiler.specs.Policy.{Holds, RuleHolds}
use Rattle.seccomp_entries.specs.Entries.{Lowered}
use Rattle.seccomp_entries.specs.Entries as entries
use Rattle.seccomp_profiles.specs.Conditions.{AreConditionsOf, together}
use Rattle.seccomp_profiles.specs.Decision.{Concerns, IsByEntry, tested}
use Rattle.seccomp_profiles.specs.Lowered.{AtEntry, DecidesAs, IsLoweredProfile}
use Rattle.seccomp_profiles.specs.declared.types.Argument.{Argument}
use Rattle.seccomp_profiles.specs.Types.{Container, Entry, Profile}
use Rattle.seccomp_warnings.specs.Doubts.{AtConcerned, IsBehind, IsDoubtIn, IsOpen, IsOpenIn, IsOther, IsSettler, MeetsOtherwise}
use Rattle.seccomp_warnings.specs.Doubts.{NoneSettles}
use Rattle.seccomp_warnings.specs.declared.profile.doubts.Doubt.TheVariants as doubt

-- What is read at a place within the list is one thing.
same_at : {X : Type 0} (xs : List X) (k : ℕ) (x y : X) → k < length xs → x ≡ get_or xs k x → y ≡ get_or xs k y → x ≡ y
same_at [] k x y within is is_too = absurd (omega arith)
same_at (z ∷ xs) zero x y within is is_too = is ∙ sym is_too
same_at (z ∷ xs) (suc k) x y within is is_too = same_at xs k x y (omega arith) is is_too

-- An entry without conditions has them all.
no_args : (args : List Argument) → args ≡ [] → AreConditionsOf args None []
no_args args none = subst (λ args. AreConditionsOf args None []) (sym none) (together (λ share. false≢true share))

module _ (arch : TargetArch) (container : Container) (p : Profile) (l : Lowered) (is : IsLoweredProfile arch container p l)
    (decides : DecidesAs arch container p l) where
  concerned : (e : entries.Entry) → Contains l.entries e → AtEntry p.entries e.place (Concerns arch container p.default e.number)
  concerned e there = let own = (is.exactly e).0 there in (own.entry, (own.within, own.there), own.concerns)

  -- Where no entry of the list settles a number, none of the profile does.
  none_settle : (n : ℕ) → All (λ (e : entries.Entry). (e.number ≡ n) × (e.conditions ≡ []) → ⊥) l.entries → NoneSettles arch container p n
  none_settle n none k x within there settles =
      let e : entries.Entry = record { place = k; alternative = None; number = n; conditions = []; action = x.action } in
      let has = (is.exactly e).1 (record {
        entry = x;
        within = within;
        there = there;
        concerns = settles.0;
        conditions = no_args (tested x.args) settles.1;
        action = refl;
      }) in
      none has.0 e has.1 (subst (λ (f : entries.Entry). (f.number ≡ n) × (f.conditions ≡ [])) (sym has.2) (refl, refl))

  -- The first entry of a number, which has no conditions, decides each of its calls.
  settler_decides : (n first : ℕ) (settler : IsSettler l.entries n first) (r : List ℕ) → word_at r 0 ≡ n
      → IsByEntry arch container p r settler.entry.action settler.entry.place
  settler_decides n first settler r number = decides.by_entry r settler.index (record {
    entry = settler.entry;
    there = settler.there;
    meets = record {
      own = settler.own ∙ sym number;
      holds = subst (λ cs. RuleHolds cs r) (sym settler.always) (All-nil (λ c. Holds c r));
    };
    before = λ k d within meets. settler.before k d within (meets.own ∙ number);
  })

  -- An entry that a record meets, with another action, is of one that matches it, with another action.
  other_at : (r : List ℕ) (action : Action) (place : ℕ) → Any (MeetsOtherwise place r action) l.entries
      → AtEntry p.entries place (IsOther arch container p r action)
  other_at r action place (k, e, within, at, is_other) =
      let own = (is.exactly e).0 (k, within, at) in
      let x = decides.matched r e (k, within, at) is_other.1 in
      let same : x.0 ≡ own.entry = same_at p.entries e.place x.0 own.entry own.within x.1.1 own.there in
      subst (λ place. AtEntry p.entries place (IsOther arch container p r action)) is_other.0
      (x.0, x.1, record { matches = x.2; differs = λ is. is_other.2 (own.action ∙ ap (λ (x : Entry). x.action) (sym same) ∙ is) })

  behind : (n first : ℕ) (settler : IsSettler l.entries n first) (e : entries.Entry) → Contains l.entries e → e.number ≡ n
      → e.place ≢ first → IsBehind arch container p first e.place n
  behind n first settler e there number apart = record {
    decides = λ r own. (
      settler.entry.action,
      subst (IsByEntry arch container p r settler.entry.action) settler.place_is (settler_decides n first settler r own),
    );
    concerns = subst (λ m. AtEntry p.entries e.place (Concerns arch container p.default m)) number (concerned e there);
    apart = λ same. apart (sym same);
  }

  open_order : (first second : ℕ) (r : List ℕ) → IsOpenIn l.entries first second r → IsOpen arch container p first second r
  open_order first second r found = record {
    none_settles = none_settle (word_at r 0) found.none;
    action = found.action;
    decides = subst (λ a. IsByEntry arch container p r a first) found.decided.action_is
        (subst (IsByEntry arch container p r found.decided.decides.entry.action) found.decided.place_is
        (decides.by_entry r found.decided.index found.decided.decides));
    other = other_at r found.action second found.other;
  }

  lowered_at : (P : Entry → Type 0) (place : ℕ) → AtEntry p.entries place P → Any (λ (e : entries.Entry). e.place ≡ place) l.entries
      → AtConcerned arch container p place P
  lowered_at P place (x, at, so) (k, e, within, is_e, there) =
      let own : AtEntry p.entries place (Concerns arch container p.default e.number) =
      subst (λ at. AtEntry p.entries at (Concerns arch container p.default e.number)) there (concerned e (k, within, is_e)) in
      let same : own.0 ≡ x = same_at p.entries place own.0 x at.0 own.1.1 at.1 in
      (x, at, (so, (e.number, subst (Concerns arch container p.default e.number) same own.2)))

-- Of the profile that has this form.
pub is_behind : (p : Profile) (l : Lowered) (n first : ℕ) → IsSettler l.entries n first → (e : entries.Entry) → Contains l.entries e
    → e.number ≡ n → e.place ≢ first → IsDoubtIn p l (doubt.Behind first e.place n)
is_behind p l n first settler e there number apart arch container is decides =
    behind arch container p l is decides n first settler e there number apart

pub is_open : (p : Profile) (l : Lowered) (first second : ℕ) (r : List ℕ) → IsOpenIn l.entries first second r
    → IsDoubtIn p l (doubt.OpenOrder first second r)
is_open p l first second r found arch container is decides = open_order arch container p l is decides first second r found

pub is_concerned : (p : Profile) (l : Lowered) (P : Entry → Type 0) (place : ℕ) → AtEntry p.entries place P
    → (k : ℕ) → IsSomeAnd (slice_get l.entries k) (λ (e : entries.Entry). e.place ≡ place) → (arch : TargetArch) (container : Container)
    → IsLoweredProfile arch container p l → DecidesAs arch container p l → AtConcerned arch container p place P
is_concerned p l P place at k some arch container is decides =
    lowered_at arch container p l is decides P place at (found (slice_get l.entries k) refl some)
  where
    found : (o : Option entries.Entry) → slice_get l.entries k ≡ o → IsSomeAnd o (λ (e : entries.Entry). e.place ≡ place)
        → Any (λ (e : entries.Entry). e.place ≡ place) l.entries
    found None got none = absurd none
    found (Some e) got there = (k, e, slice_get_within l.entries k e got, get_or_from_slice_get l.entries k e e got, there)
