-- For `lowered_profile`: what is decided by the entries of a profile in one form is what the profile decides.
use Rattle.std.proofs.Common.{◌≡◌, ◌↔◌, ◌<◌, ◌≤◌, ℕ, zero, suc, List, [], ◌∷◌, length, get_or, take}
use Rattle.std.proofs.Common.{refl, sym, subst, ap, ◌∙◌, arith, inl, inr}
use Rattle.std.specs.Prelude.{All, Contains}
use Rattle.std.proofs.lemmas.Bool.{cases_lt}
use Rattle.std.proofs.lemmas.List.Elements.{All-head, All-tail}
use Rattle.std.proofs.lemmas.Option.{get_or_from_slice_get, slice_get_within}
use Rattle.seccomp_entries.specs.declared.entry.Action.{Action}
use Rattle.seccomp_entries.specs.declared.entry.Action.TheVariants.{Notify, Own}
use Rattle.seccompiler.specs.declared.backend.SeccompAction.TheVariants.{Allow, Errno, KillThread, KillProcess, Log, Trace, Trap}
use Rattle.seccomp_profiles.specs.declared.types.Abi.{Abi}
use Rattle.seccompiler.specs.Architecture.{audit_word}
use Rattle.seccompiler.specs.Machine.{word_at}
use Rattle.seccomp_entries.specs.Entries.{IsDecided, IsDecider, Lowered, Meets, NoneMeets}
use Rattle.seccomp_entries.specs.Entries as entries
use Rattle.seccomp_profiles.specs.Concerns.{AreAskedTo}
use Rattle.seccomp_profiles.specs.Abis.{length_for}
use Rattle.seccomp_profiles.specs.Decision.{ConcernsOn, IsByEntryOf, MatchesOn, NoneOf, by_default, by_entry, rank, rank_by, strictness}
use Rattle.seccomp_profiles.specs.Decision.{tested}
use Rattle.seccomp_profiles.specs.Lowered.{DecidesOf, IsAskedBefore, IsLoweredOf, IsOwn, by_condition, by_number, by_place, by_rank}
use Rattle.seccomp_profiles.specs.Lowered.{rank_in}
use Rattle.seccomp_profiles.specs.ProfileDecisions.{IsWordOf}
use Rattle.seccomp_profiles.specs.ProfileDecisions as words
use Rattle.seccomp_profiles.specs.declared.types.Argument.{Argument}
use Rattle.seccomp_profiles.specs.Types.{Container, Entry, Profile}
use Rattle.seccomp_profiles.proofs.Least.{same_at}
use Rattle.seccomp_profiles.proofs.concerns.Conditions.{from_conditions, some_conditions}
use Rattle.seccomp_profiles.proofs.lowered.Once.{word_only}
use Rattle.seccomp_profiles.proofs.lowered.Own.{own_rank, ranked}

-- Each entry is of one of nine ranks.
pub rank_small : (args : List Argument) (action : Action) → rank_by args action < 9
rank_small [] action = omega arith
rank_small (a ∷ args) action = let few = strict_small action in omega arith
  where
    strict_small : (action : Action) → strictness action < 8
    strict_small (Own Allow) = omega arith
    strict_small (Own (Errno n)) = omega arith
    strict_small (Own KillThread) = omega arith
    strict_small (Own KillProcess) = omega arith
    strict_small Notify = omega arith
    strict_small (Own Log) = omega arith
    strict_small (Own (Trace n)) = omega arith
    strict_small (Own Trap) = omega arith

-- So those that are asked before the tenth rank are all.
pub all_asked : (abi : Abi) (container : Container) (default : Action) (own : List Entry) (all : List entries.Entry)
    → AreAskedTo abi container default own 9 0 all → (e : entries.Entry) → Contains all e ↔ IsOwn abi container default own e
all_asked abi container default own all are e = (
  λ has. ((are.exactly e).0 has).0,
  λ is. (are.exactly e).1
      (is, inl (subst (λ n. n < 9) (sym (own_rank abi container default own e is)) (rank_small (tested is.entry.args) is.entry.action))),
)

-- What holds of none in front of a place holds of none there.
before_place : {X : Type 0} (P : X → Type 0) (xs : List X) (n k : ℕ) (x : X) → All (λ x. P x → ⊥) (take n xs) → k < n → k < length xs
    → x ≡ get_or xs k x → P x → ⊥
before_place P [] n k x none less within is has = absurd (omega arith)
before_place P (y ∷ xs) zero k x none less within is has = absurd (omega arith)
before_place P (y ∷ xs) (suc n) zero x none less within is has = All-head (λ x. P x → ⊥) y (take n xs) none (subst P is has)
before_place P (y ∷ xs) (suc n) (suc k) x none less within is has =
    before_place P xs n k x (All-tail (λ x. P x → ⊥) y (take n xs) none) (omega arith) (omega arith) is has

module _ (abi : Abi) (container : Container) (p : Profile) (mine : List Entry) (l : Lowered) (is : IsLoweredOf abi container p mine l)
    (r : List ℕ) where
  abbrev P : Entry → Type 0
  P = MatchesOn abi container p.default r

  -- An entry of the profile that matches has one that the record meets, of its place and its rank.
  record IsMetAs (k : ℕ) (y : Entry) : Type 0 where
    pub entry : entries.Entry
    pub nth : ℕ
    pub within : nth < length l.entries
    pub there : entry ≡ get_or l.entries nth entry
    pub meets : Meets r entry
    pub place : entry.place ≡ k
    pub ranked : rank_in entry.conditions entry.action ≡ rank y

  met_as : (k : ℕ) (y : Entry) → k < length mine → y ≡ get_or mine k y → P y → IsMetAs k y
  met_as k y inside read has =
      let some = some_conditions (length_for abi) r (tested y.args) has.1 in
      let e : entries.Entry = record {
        place = k;
        alternative = some.alternative;
        number = word_at r 0;
        conditions = some.conditions;
        action = y.action;
      } in
      let there = (is.exactly e).1 (record {
        entry = y;
        within = inside;
        there = read;
        concerns = has.0;
        conditions = some.are;
        action = refl;
      }) in
      record {
        entry = e;
        nth = there.0;
        within = there.1;
        there = sym there.2;
        meets = record { own = refl; holds = some.hold };
        place = refl;
        ranked = ranked (length_for abi) (tested y.args) y.action some.alternative some.conditions some.are;
      }

  -- A record that meets an entry matches the profile's.
  matches : (e : entries.Entry) → (own : IsOwn abi container p.default mine e) → Meets r e → P own.entry
  matches e own meets = (
    subst (λ n. ConcernsOn abi container p.default n own.entry) meets.own own.concerns,
    from_conditions (length_for abi) r (tested own.entry.args) e.alternative e.conditions own.conditions meets.holds,
  )

  -- What is asked before another one is of a lesser rank, or of the same rank and not behind it.
  not_behind : (e f : entries.Entry) → IsAskedBefore e f → rank_in e.conditions e.action ≡ rank_in f.conditions f.action
      → e.place ≤ f.place
  not_behind e f (by_rank less) same = absurd (omega arith)
  not_behind e f (by_place ranks less) same = omega arith
  not_behind e f (by_number at apart) same = omega arith
  not_behind e f (by_condition at j k one other less) same = omega arith

  of_one : (e f : entries.Entry) → (own : IsOwn abi container p.default mine e) (other : IsOwn abi container p.default mine f)
      → e.place ≡ f.place → rank_in e.conditions e.action ≡ rank_in f.conditions f.action
  of_one e f own other at =
      let read = subst (λ k. other.entry ≡ get_or mine k other.entry) (sym at) other.there in
      let same : own.entry ≡ other.entry = same_at mine e.place own.entry other.entry own.within own.there read in
      own_rank abi container p.default mine e own ∙ ap rank same ∙ sym (own_rank abi container p.default mine f other)

  not_later : (e f : entries.Entry) → IsOwn abi container p.default mine e → IsOwn abi container p.default mine f
      → IsAskedBefore e f → rank_in e.conditions e.action ≤ rank_in f.conditions f.action
  not_later e f own other (by_rank less) = omega arith
  not_later e f own other (by_place same less) = omega arith
  not_later e f own other (by_number at apart) = let same = of_one e f own other at in omega arith
  not_later e f own other (by_condition at j k one two less) = let same = of_one e f own other at in omega arith

  module _ (index : ℕ) (decides : IsDecider l.entries r index) where
    abbrev e : entries.Entry
    e = decides.entry

    inside : index < length l.entries
    inside = slice_get_within l.entries index decides.entry decides.there

    read : (d : entries.Entry) → get_or l.entries index d ≡ e
    read d = get_or_from_slice_get l.entries index e d decides.there

    own : IsOwn abi container p.default mine e
    own = (is.exactly e).0 (index, inside, read e)

    -- None that matches is asked before.
    record IsFirstBeside (k : ℕ) (y : Entry) : Type 0 where
      pub rank_least : rank own.entry ≤ rank y
      pub place_least : rank own.entry ≡ rank y → e.place ≤ k

    beside : (k : ℕ) (y : Entry) → IsMetAs k y → IsFirstBeside k y
    beside k y met = elim (cases_lt met.nth index) [
      | inl less ↦ absurd (before_place (Meets r) l.entries index met.nth met.entry decides.before less met.within met.there met.meets)
      | inr most ↦ elim (cases_lt index met.nth) [
        | inl less ↦
            let f = met.entry in
            let other = (is.exactly f).0 (met.nth, met.within, sym met.there) in
            let asked = subst (λ x. IsAskedBefore x f) (read f) (subst (IsAskedBefore (get_or l.entries index f)) (sym met.there)
            (is.ordered index met.nth f less met.within)) in
            let ranks = own_rank abi container p.default mine e own in
            let later = not_later e f own other asked in
            let ranked_too = met.ranked in
            let place = met.place in
            record {
              rank_least = omega (arith, ranks, later, ranked_too);
              place_least = λ same. let behind = not_behind e f asked (ranks ∙ same ∙ sym ranked_too) in omega (arith, behind, place);
            }
        | inr least ↦
            let at : index ≡ met.nth = omega arith in
            let same : e ≡ met.entry = sym (read met.entry) ∙ ap (λ n. get_or l.entries n met.entry) at ∙ sym met.there in
            let ranks = own_rank abi container p.default mine e own in
            let both : rank own.entry ≡ rank y =
            sym ranks ∙ ap (λ (x : entries.Entry). rank_in x.conditions x.action) same ∙ met.ranked in
            let place : e.place ≡ k = ap (λ (x : entries.Entry). x.place) same ∙ met.place in
            record { rank_least = omega (arith, both); place_least = λ same. omega (arith, place) }
      ]
    ]

    -- The entry that decides is of the one that is asked first of those that match.
    pub by_own : IsByEntryOf abi container p.default mine r e.action e.place
    by_own = record {
      entry = own.entry;
      first = record {
        within = own.within;
        there = own.there;
        holds = matches e own decides.meets;
        before = λ k y less y_is has.
            let within = own.within in
            let is = beside k y (met_as k y (omega arith) y_is has) in
            elim (cases_lt (rank own.entry) (rank y)) [
              | inl more ↦ more
              | inr most ↦
                  let least = is.rank_least in
                  let place = is.place_least (omega arith) in
                  absurd (omega arith)
            ];
        others = λ k y within y_is has. (beside k y (met_as k y within y_is has)).rank_least;
      };
      is = own.action;
    }

  -- If the record meets none, none of the profile matches.
  pub none_own : NoneMeets l.entries r → NoneOf P mine (length mine)
  none_own none k y within y_is has =
      let met = met_as k y within y_is has in
      none met.nth met.entry met.within (subst (Meets r) met.there met.meets)

-- What is decided is what the profile decides.
pub decides : (abi : Abi) (container : Container) (p : Profile) (mine : List Entry) (l : Lowered) → IsLoweredOf abi container p mine l
    → DecidesOf abi container p mine l
decides abi container p mine l is = record {
  decides = word;
  only = λ r w v decided is. word_only abi container p mine r w v (word r w decided) is;
  by_entry = λ r index decider. by_own abi container p mine l is r index decider;
  matched = λ r e has meets.
      let own = (is.exactly e).0 has in (own.entry, (own.within, own.there), matches abi container p mine l is r e own meets);
}
  where
    word : (r : List ℕ) (w : ℕ) → IsDecided l r w → IsWordOf abi container p mine r w
    word r w (entries.other_architecture apart kills) = words.other (λ same. apart (same ∙ ap audit_word (sym is.target_arch))) kills
    word r w (entries.by_entry here index by value) =
        words.own by.entry.action (here ∙ ap audit_word is.target_arch)
        (by_entry by.entry.place (by_own abi container p mine l is r index by)) value
    word r w (entries.by_default here none value) =
        let default = is.defaults (word_at r 0) in
        words.own default.0 (here ∙ ap audit_word is.target_arch)
        (by_default (none_own abi container p mine l is r none) default.1) (value ∙ default.2)
