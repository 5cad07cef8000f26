-- For the causes of errors: what a layer below refuses, as an error of the tool.
use Rattle.seccomptool.proofs.Common.{◌∙◌, ◌≡◌, AnswerError, Bool, Container, Filter, FilterError, IsFilterOf, IsLeastUnfit, IsRefusalIn}
use Rattle.seccomptool.proofs.Common.{IsRefusedAs, IsRefusedProfile, IsUnread, Layout, Linear, List, Option, OutOfMemory, Subject}
use Rattle.seccomptool.proofs.Common.{TargetArch, Tree, from_filter, map, named, numbers_of, refl, string_bytes, subst, sym, too_large}
use Rattle.seccomptool.proofs.Common.{unread, ℕ, ℤ}
use Rattle.seccomp_tree.specs.declared.error.FilterError.TheVariants as filter
use Rattle.seccomptool.specs.Causes.{AreNamesTold, IsLargeIn}
use Rattle.seccomptool.specs.Causes.{IsSize, IsSizeTold, IsUncompiledIn}
use Rattle.seccomptool.specs.Causes.{IsUncompiledProfile}
use Rattle.seccomptool.specs.Causes.{names_text, no_names, no_size, size_text, uncompiled, unknown_names}
use Rattle.seccomp_answers.specs.declared.kind.Subject.TheVariants as subject

-- ---- filters

is_large : (layout : Layout) (f : Filter) (cause : FilterError) → IsSize cause → IsRefusalIn layout f cause → IsLargeIn layout f
is_large Linear f (filter.FilterTooLarge n) size is = (n, is)
is_large Tree f (filter.FilterTooLarge n) size is = absurd is
is_large Linear f filter.TreeTooLarge size is = absurd is
is_large Tree f filter.TreeTooLarge size is = is
is_large layout f cause size is = absurd size

-- If it isn't its size that it is refused for, memory ran out.
not_large : (layout : Layout) (f : Filter) → ((n : ℤ) → IsLeastUnfit (numbers_of f.chains) n → ⊥) → (cause : FilterError)
    → (IsSize cause → ⊥) → IsRefusalIn layout f cause → from_filter cause ≡ OutOfMemory
not_large layout f fits (filter.InvalidSyscallNumber n) size is = absurd (fits n (unfit layout is))
  where
    unfit : (layout : Layout) → IsRefusalIn layout f (filter.InvalidSyscallNumber n) → IsLeastUnfit (numbers_of f.chains) n
    unfit Linear is = is
    unfit Tree is = is
not_large layout f fits (filter.FilterTooLarge n) size is = absurd (size tt)
not_large layout f fits filter.TreeTooLarge size is = absurd (size tt)
not_large layout f fits filter.OutOfMemory size is = refl

-- Why the filter that is chosen isn't compiled, as it is told.
pub size_told : (target : TargetArch) (layout : Layout) (asked : Option (List ℕ)) (text : List ℕ) (f : Filter)
    → IsFilterOf target asked text f → ((n : ℤ) → IsLeastUnfit (numbers_of f.chains) n → ⊥) → (cause : FilterError) (e : AnswerError)
    → IsRefusalIn layout f cause → IsSizeTold cause e → IsUncompiledIn target layout asked text e
size_told target layout asked text f of fits cause e is (size_text size fault) = too_large (f, of, is_large layout f cause size is, fault)
size_told target layout asked text f of fits cause e is (no_size size same) =
    unread (subst (IsUnread target text) (sym (same ∙ not_large layout f fits cause size is)) tt)

-- ---- what is no policy

-- What has no filters isn't refused as a policy.
pub beside : (P Q : AnswerError → Type 0) (target : TargetArch) (kind : Subject) (asked : Option (List ℕ)) (given : List ℕ)
    (e : AnswerError) → (kind ≡ subject.Policy → ⊥) → IsRefusedAs P target kind asked given e → IsRefusedAs Q target kind asked given e
beside P Q target subject.Policy asked given e apart is = absurd (apart refl)
beside P Q target (subject.Profile container) asked given e apart is = is
beside P Q target subject.Program asked given e apart is = is

pub lacking : (P : AnswerError → Type 0) (target : TargetArch) (kind : Subject) (asked : Option (List ℕ)) (given : List ℕ) → P OutOfMemory
    → IsRefusedAs P target kind asked given OutOfMemory
lacking P target subject.Policy asked given is = is
lacking P target (subject.Profile container) asked given is = named tt
lacking P target subject.Program asked given is = named tt

-- Why a profile isn't compiled, as it is told.
pub names_told : (target : TargetArch) (container : Container) (strict : Bool) (text : List ℕ) (own e : AnswerError)
    → IsRefusedProfile target container strict text own → AreNamesTold own e → IsUncompiledProfile target container strict text e
names_told target container strict text own e is (names_text names unknown fault) =
    let why = subst (IsRefusedProfile target container strict text) unknown is in
    unknown_names (map string_bytes names.items) why.1.0 why.1.1 fault
names_told target container strict text own e is (no_names eq) =
    uncompiled (subst (IsRefusedProfile target container strict text) (sym eq) is)
