-- What `==` computes of values that own memory, when two values have the same parts, and that each test of equality
-- tells whether they have.
use Rattle.std.specs.Prelude.{◌≡◌, ℤ, Bool, ◌&&◌, List, [], ◌∷◌, Option, Some, None, nat_eq, String, string_eq, string_bytes, refl, Decides}
use Rattle.std.specs.Cmp.{IsPartialEquivalence, partial_equiv_from_equiv, decided, and_per, on_per, unsigned_Decides, signed_Decides}
use Rattle.std.specs.Cmp.Lexicographic.{pointwise, pointwise_decides, bytes_decides, lists_per, nat_list_eq_equiv}
use Rattle.std.specs.List.{AllZip}
use Rattle.std.specs.Option.{option_eq}
use Rattle.std.specs.Ordering.{int_eq, on, eq_of_both}
use Rattle.std.specs.declared.alloc.Global.{Global}
use Rattle.std.proofs.Common.{sym, ap}
use Rattle.std.proofs.lemmas.Bool.{true≢false}
use Rattle.std.proofs.lemmas.Bool.Decides.{Decides-and}
use Rattle.seccompiler.specs.declared.backend.BackendError.{BackendError}
use Rattle.seccompiler.specs.declared.backend.BackendError.TheVariants as e
use Rattle.seccompiler.specs.declared.json.types.JsonFilterMap.{JsonFilterMap}
use Rattle.seccompiler.specs.contracts.backend.BackendErrorPartialEq.TheImpl as refusal
use Rattle.seccompiler.specs.contracts.backend.SeccompActionPartialEq.TheImpl as action
use Rattle.seccompiler.specs.contracts.backend.SeccompActionEqualByParts.TheImpl.Laws as action_law
use Rattle.seccompiler.specs.contracts.backend.TargetArchPartialEq.TheImpl as arch
use Rattle.seccompiler.specs.contracts.backend.TargetArchEqualByParts.TheImpl.Laws as arch_law
use Rattle.seccompiler.specs.contracts.condition.SeccompConditionPartialEq.TheImpl as condition
use Rattle.seccompiler.specs.contracts.condition.SeccompConditionEqualByParts.TheImpl.Laws as condition_law
use Rattle.seccompiler.specs.contracts.json.types.JsonConditionPartialEq.TheImpl as json_condition
use Rattle.seccompiler.specs.contracts.json.types.JsonConditionEqualByParts.TheImpl.Laws as json_law
use Rattle.seccompiler.specs.JsonTypes.{JsonRule, JsonFilter}
use Rattle.seccompiler.specs.Policy.{Rule, Chain, Filter}
use Rattle.seccompiler.specs.Texts.{IsInvalidArch}

-- The rules have equal conditions, in their order.
abbrev pub are_rules_equal : Rule → Rule → Bool
are_rules_equal = pointwise condition.ghosts.eq

-- The entries have the same call number and equal rules, in their order.
abbrev pub are_entries_equal : ℤ × Chain → ℤ × Chain → Bool
are_entries_equal e e' = int_eq e.0 e'.0 && pointwise are_rules_equal e.1 e'.1

-- The filters have equal entries, the same actions and the same architecture.
abbrev pub are_filters_equal : Filter → Filter → Bool
are_filters_equal f g =
    pointwise are_entries_equal f.chains g.chains
    && action.ghosts.eq f.mismatch_action g.mismatch_action
    && action.ghosts.eq f.match_action g.match_action
    && arch.ghosts.eq f.target_arch g.target_arch

-- Two refusals of the backend are the same: they are equal, or both refuse an architecture's name, with the same bytes.
abbrev pub IsSameRefusal : BackendError → BackendError → Type 0
IsSameRefusal (e.InvalidTargetArch s) y = IsInvalidArch y (string_bytes s)
IsSameRefusal x y = x ≡ y

-- Whether two entries are equal: the bytes of their names, and their conditions, one by one.
abbrev pub rule_eq : JsonRule → JsonRule → Bool
rule_eq = eq_of_both (on (λ (r : JsonRule). r.syscall) (pointwise nat_eq))
    (on (λ (r : JsonRule). r.conditions) (option_eq (pointwise json_condition.ghosts.eq)))

-- Whether two filters are equal: their actions, and their entries, one by one.
abbrev pub filter_eq : JsonFilter → JsonFilter → Bool
filter_eq = eq_of_both (on (λ (f : JsonFilter). f.mismatch_action) action.ghosts.eq)
    (eq_of_both (on (λ (f : JsonFilter). f.match_action) action.ghosts.eq) (on (λ (f : JsonFilter). f.rules) (pointwise rule_eq)))

-- Whether two maps of filters have equal names and filters.
abbrev pub filter_map_eq : JsonFilterMap → JsonFilterMap → Bool
filter_map_eq = on (λ (m : JsonFilterMap). m.0.entries)
    (pointwise (λ (p q : String Global × JsonFilter). string_eq p.0 q.0 && filter_eq p.1 q.1))

-- Two entries of maps are the same: their names have the same bytes, and their filters are equal.
abbrev pub IsSameEntry : String Global × JsonFilter → String Global × JsonFilter → Type 0
IsSameEntry p q = (string_bytes p.0 ≡ string_bytes q.0) × (p.1 ≡ q.1)

-- A test that tells a fact tells each fact that is as good.
through : {P Q : Type 0} (b : Bool) → (P → Q) → (Q → P) → Decides b P → Decides b Q
through b there back h = (λ t. there (h.0 t), λ q. h.1 (back q))

pub rules_decide : (x y : Rule) → Decides (are_rules_equal x y) (x ≡ y)
rules_decide = pointwise_decides condition_law.decides-law

entries_decide : (x y : ℤ × Chain) → Decides (are_entries_equal x y) (x ≡ y)
entries_decide x y = through (are_entries_equal x y) (λ e. λ i. (e.0 i, e.1 i)) (λ e. (ap (λ p. p.0) e, ap (λ p. p.1) e))
    (Decides-and _ _ (signed_Decides x.0 y.0) (pointwise_decides rules_decide x.1 y.1))

pub filters_decide : (f g : Filter) → Decides (are_filters_equal f g) (f ≡ g)
filters_decide f g = through (are_filters_equal f g)
    (λ e. λ i. record { chains = e.0.0.0 i; mismatch_action = e.0.0.1 i; match_action = e.0.1 i; target_arch = e.1 i })
    (λ e. (((ap (λ h. h.chains) e, ap (λ h. h.mismatch_action) e), ap (λ h. h.match_action) e), ap (λ h. h.target_arch) e))
    (Decides-and _ _ (Decides-and _ _ (Decides-and _ _ (pointwise_decides entries_decide f.chains g.chains) (action_law.decides-law _ _))
    (action_law.decides-law _ _)) (arch_law.decides-law _ _))

pub refusals_decide : (x y : BackendError) → Decides (refusal.ghosts.eq x y) (IsSameRefusal x y)
refusals_decide e.EmptyRule e.EmptyRule = (λ t. refl, λ i. refl)
refusals_decide (e.FilterTooLarge m) (e.FilterTooLarge n) = through _ (λ i. ap e.FilterTooLarge i) (λ i. cc) (unsigned_Decides m n)
refusals_decide e.IdenticalActions e.IdenticalActions = (λ t. refl, λ i. refl)
refusals_decide e.InvalidArgumentNumber e.InvalidArgumentNumber = (λ t. refl, λ i. refl)
refusals_decide (e.InvalidTargetArch s) (e.InvalidTargetArch t) =
    through _ (λ i. sym i) (λ i. sym i) (bytes_decides (string_bytes s) (string_bytes t))
refusals_decide (e.InvalidTargetArch s) _ = (λ t. absurd (true≢false (sym t)), λ never. absurd never)
refusals_decide (e.InvalidSyscallNumber m) (e.InvalidSyscallNumber n) =
    through _ (λ i. ap e.InvalidSyscallNumber i) (λ i. cc) (signed_Decides m n)
refusals_decide e.OutOfMemory e.OutOfMemory = (λ t. refl, λ i. refl)
refusals_decide _ _ = (λ t. absurd (true≢false (sym t)), λ i. cc)

-- of two `Option`s
option_decides : {K : Type 0} {E : K → K → Bool} → ((x y : K) → Decides (E x y) (x ≡ y))
    → (x y : Option K) → Decides (option_eq E x y) (x ≡ y)
option_decides h None None = (λ _. refl, λ _. refl)
option_decides h (Some x) (Some y) = (λ t. ap Some ((h x y).0 t), λ e. (h x y).1 cc)
option_decides h _ _ = (λ t. absurd (true≢false (sym t)), λ e. cc)

pub rule_decides : (x y : JsonRule) → Decides (rule_eq x y) (x ≡ y)
rule_decides x y = through (rule_eq x y) (λ e. λ i. record { syscall = e.0 i; conditions = e.1 i })
    (λ e. (ap (λ r. r.syscall) e, ap (λ r. r.conditions) e))
    (Decides-and _ _ (bytes_decides x.syscall y.syscall)
    (option_decides (pointwise_decides json_law.decides-law) x.conditions y.conditions))

pub filter_decides : (x y : JsonFilter) → Decides (filter_eq x y) (x ≡ y)
filter_decides x y = through (filter_eq x y) (λ e. λ i. record { mismatch_action = e.0 i; match_action = e.1.0 i; rules = e.1.1 i })
    (λ e. (ap (λ r. r.mismatch_action) e, (ap (λ r. r.match_action) e, ap (λ r. r.rules) e)))
    (Decides-and _ _ (action_law.decides-law _ _) (Decides-and _ _ (action_law.decides-law _ _) (pointwise_decides rule_decides _ _)))

named_decide : (ps qs : List (String Global × JsonFilter))
    → Decides (pointwise (λ (p q : String Global × JsonFilter). string_eq p.0 q.0 && filter_eq p.1 q.1) ps qs) (AllZip IsSameEntry ps qs)
named_decide [] [] = (λ t. tt, λ e. refl)
named_decide (p ∷ ps) (q ∷ qs) =
    Decides-and _ _ (Decides-and _ _ (bytes_decides (string_bytes p.0) (string_bytes q.0)) (filter_decides _ _)) (named_decide ps qs)
named_decide _ _ = (λ t. absurd (true≢false (sym t)), λ e. absurd e)

pub filter_map_decides : (m n : JsonFilterMap) → Decides (filter_map_eq m n) (AllZip IsSameEntry m.0.entries n.0.entries)
filter_map_decides m n = named_decide m.0.entries n.0.entries

pub filter_map_eq_law : IsPartialEquivalence filter_map_eq
filter_map_eq_law = on_per (λ (m : JsonFilterMap). m.0.entries)
    (lists_per (and_per (on_per (λ (p : String Global × JsonFilter). p.0)
    (on_per string_bytes (partial_equiv_from_equiv nat_list_eq_equiv)))
    (on_per (λ (p : String Global × JsonFilter). p.1) (partial_equiv_from_equiv (decided filter_eq filter_decides)))))
