-- For `drawers`: places in drawers, and calls that meet an entry of one.
use Rattle.std.proofs.Common.{◌≡◌, ℕ, ◌+◌, ◌*◌, ◌<◌, ◌%◌, ◌^◌, true, List, Option, Some, None, Vec, Global}
use Rattle.std.proofs.Common.{inl, inr, refl, sym, ap, ◌∙◌, subst, arith, ⊎_elim, length, length-take-le}
use Rattle.std.specs.Prelude.{◌⊎◌, Contains, IfNone, IfSome, IsSomeAnd, MatchOption, get_or, slice_get, slice_index}
use Rattle.std.specs.BTreeMap.{BTreeMap, Updates, get, is_at}
use Rattle.std.specs.Ordering.{is_eq, nat_cmp}
use Rattle.std.specs.declared.cmp.Ordering.{Ordering}
use Rattle.std.specs.declared.cmp.Ordering.TheVariants.{Equal, Greater, Less}
use Rattle.std.proofs.lemmas.Bool.{cases_Bool}
use Rattle.std.proofs.lemmas.List.{get_or-take}
use Rattle.std.proofs.lemmas.Option.{slice_get-get_or, slice_get_within}
use Rattle.std.proofs.lemmas.Map.Lookups.{exact_pairs, exact_unsigned}
use Rattle.seccompiler.specs.Machine.{argument_at, word_at}
use Rattle.seccompiler.specs.Policy.{Compares, Condition, Holds, operator_part, part_of}
use Rattle.seccompiler.specs.declared.backend.SeccompCmpArgLen.{SeccompCmpArgLen}
use Rattle.seccompiler.specs.declared.backend.SeccompCmpArgLen.TheVariants.{Dword, Qword}
use Rattle.seccompiler.specs.declared.backend.SeccompCmpOp.TheVariants.{Eq}
use Rattle.seccomp_entries.specs.Drawers.{Drawer, IsDrawerOf, IsFoundBy, IsIn, MeetsAt, drawer_cmp}
use Rattle.seccomp_entries.specs.Entries.{Entry, IsDecider, Meets, NoneMeets}

-- ---- one place more in a drawer

abbrev pub Files : Type 0
Files = BTreeMap Drawer (Vec ℕ Global)

-- what is there of a value that is so
some_value : {X : Type 0} (o : Option X) (P : X → Type 0) → IsSomeAnd o P → (v : X) × (o ≡ Some v) × P v
some_value (Some v) P is = (v, refl, is)
some_value None P is = elim is [ ]

is_equal : (o : Ordering) → is_eq o ≡ true → o ≡ Equal
is_equal Equal is = refl
is_equal Less is = absurd (let never : ⊥ = cc in never)
is_equal Greater is = absurd (let never : ⊥ = cc in never)

-- The drawer has these places now, which are more than it had, and other drawers stay.
module _ (old taken new : Files) (drawer : Drawer) (now : Vec ℕ Global) (takes : Updates drawer_cmp old taken drawer None)
    (puts : Updates drawer_cmp taken new drawer (Some now)) where
  pub own : (k : ℕ) → Contains now.items k → IsIn new drawer k
  own k has = subst (λ o. IsSomeAnd o (λ (v : Vec ℕ Global). Contains v.items k)) (sym puts.1) has

  pub kept : ((v : Vec ℕ Global) → get drawer_cmp old drawer ≡ Some v → (k : ℕ) → Contains v.items k → Contains now.items k) → (d : Drawer)
      (k : ℕ) → IsIn old d k → IsIn new d k
  kept more d k is =
      let P = λ (v : Vec ℕ Global). Contains v.items k in
      let was = some_value (get drawer_cmp old d) P is in
      ⊎_elim
      (λ here.
      let same : drawer ≡ d = exact_pairs nat_cmp nat_cmp exact_unsigned exact_unsigned drawer d (equal here) in
      subst (λ e. IsIn new e k) same (own k (more was.0 (ap (get drawer_cmp old) same ∙ was.1) k was.2)))
      (λ other.
      let stays : get drawer_cmp new d ≡ get drawer_cmp old d = puts.2 d other ∙ takes.2 d other in
      subst (λ o. IsSomeAnd o P) (sym stays) is)
      (cases_Bool (is_at (drawer_cmp drawer) d))
    where
      equal : is_at (drawer_cmp drawer) d ≡ true → drawer_cmp drawer d ≡ Equal
      equal is = is_equal (drawer_cmp drawer d) is

-- ---- calls that meet an entry

-- the low half of an argument is the word where it begins
low_word : (r : List ℕ) (i : ℕ) → ((k : ℕ) → slice_index r k < 256) → argument_at r i % 2 ^ 32 ≡ word_at r (16 + 8 * i)
low_word r i fits = let k = 16 + 8 * i in omega (arith, fits k, fits (k + 1), fits (k + 1 + 1), fits (k + 1 + 1 + 1))

-- a condition that an argument equals a value fixes its low half
low_fixed : (c : Condition) (r : List ℕ) → c.operator ≡ Eq → Holds c r → argument_at r c.arg_index % 2 ^ 32 ≡ c.value % 2 ^ 32
low_fixed c r is holds =
    fixed c.arg_len
    (subst (λ o. Compares (operator_part c.arg_len o) (part_of c.arg_len (argument_at r c.arg_index)) (part_of c.arg_len c.value)) is
    holds)
  where
    fixed : (l : SeccompCmpArgLen) → Compares (operator_part l Eq) (part_of l (argument_at r c.arg_index)) (part_of l c.value)
        → argument_at r c.arg_index % 2 ^ 32 ≡ c.value % 2 ^ 32
    fixed Dword same = same
    fixed Qword same = ap (λ n. n % 2 ^ 32) same

-- so a call that meets an entry has its drawer
pub drawers_of_call : (e : Entry) (d : Drawer) (r : List ℕ) → ((k : ℕ) → slice_index r k < 256) → IsDrawerOf e d → Meets r e
    → (d ≡ (6, word_at r 0)) ⊎ ((i : ℕ) × (i < 6) × (d ≡ (i, word_at r (16 + 8 * i))))
drawers_of_call e d r fits (inl is) meets = inl (is ∙ ap (λ n. (6, n)) meets.own)
drawers_of_call e d r fits (inr (k, c, within, at, is)) meets =
    let holds : Holds c r = subst (λ x. Holds x r) at (meets.holds k c within) in
    inr (
      c.arg_index,
      omega (arith, is.1),
      is.2 ∙ ap (λ n. (c.arg_index, n)) (sym (low_fixed c r is.0 holds) ∙ low_word r c.arg_index fits),
    )

pub none_weaker : {X P Q : Type 0} (o : Option X) → (P → Q) → IfNone o P → IfNone o Q
none_weaker None so is = so is
none_weaker (Some x) so is = is

-- ---- the first entry that is met

pub met_at : (entries : List Entry) (r : List ℕ) (k : ℕ) (e : Entry) → slice_get entries k ≡ Some e → Meets r e → MeetsAt entries r k
met_at entries r k e there meets = subst (λ o. IsSomeAnd o (Meets r)) (sym there) meets

-- What is met, and no greater than any place that is met, is the first.
pub first_by : (entries : List Entry) (r : List ℕ) (found : Option ℕ)
    → ((k : ℕ) (e : Entry) → slice_get entries k ≡ Some e → Meets r e → IsFoundBy found k) → IfSome found (MeetsAt entries r)
    → MatchOption found (NoneMeets entries r) (IsDecider entries r)
first_by entries r None each met = λ k d within meets. each k (get_or entries k d) (slice_get-get_or entries k d within) meets
first_by entries r (Some j) each met =
    let own = some_value (slice_get entries j) (Meets r) met in
    let there = slice_get_within entries j own.0 own.1 in
    let long = length-take-le j entries (omega (arith, there)) in
    record {
      entry = own.0;
      there = own.1;
      meets = own.2;
      before = λ k d within meets.
          let less : k < j = omega (arith, within, long) in
          let inside : k < length entries = omega (arith, less, there) in
          let is = subst (Meets r) (get_or-take j entries k d less) meets in
          let above = each k (get_or entries k d) (slice_get-get_or entries k d inside) is in
          absurd (omega (arith, less, above));
    }
