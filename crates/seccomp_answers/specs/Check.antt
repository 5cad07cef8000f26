-- What `check` gives: why a policy is rejected, or else its warnings.
use Rattle.std.specs.Prelude.{◌≡◌, ◌<◌, ◌==◌, if◌then◌else◌, ℕ, ◌+◌, Bool, true, false, List, String, length, string_bytes, ⊤}
use Rattle.std.specs.List.{AllZip, sum_by}
use Rattle.std.specs.declared.alloc.Global.{Global}
use Rattle.seccompiler.specs.declared.backend.TargetArch.{TargetArch}
use Rattle.seccompiler.specs.declared.json.types.JsonFilterMap.{JsonFilterMap}
use Rattle.seccompiler.specs.JsonAnswers.{OfValue}
use Rattle.seccompiler.specs.JsonSteps.{AreFilters}
use Rattle.seccompiler.specs.JsonTypes.{JsonFilter}
use Rattle.seccomp_faults.specs.Checks.{AreAllCompiled, ArePlaced, IsRefusedFor}
use Rattle.seccomp_faults.specs.declared.fault.Fault.{Fault}
use Rattle.seccomp_warnings.specs.Beside.{AreCodesBeside, IsBeside}
use Rattle.seccomp_warnings.specs.Warnings.{AreTrueWarnings}
use Rattle.seccomp_warnings.specs.declared.beside.Beside.{Beside}
use Rattle.seccomp_warnings.specs.declared.code.Code.{Code}
use Rattle.seccomp_answers.specs.declared.error.AnswerError.{AnswerError}
use Rattle.seccomp_answers.specs.declared.check.CheckedPolicy.{CheckedPolicy}
use Rattle.seccomp_answers.specs.declared.check.FilterWarnings.{FilterWarnings}
use Rattle.seccomp_answers.specs.declared.error.AnswerError.TheVariants.{Library, Placed, OutOfMemory}
use Rattle.seccomp_answers.specs.declared.findings.Verdict.{Verdict}
use Rattle.seccomp_answers.specs.declared.findings.Verdict.TheVariants.{Same, Different}

-- These are the warnings of the filter of this name, but for those of the codes that are allowed, or settled by what is beside it.
pub record AreWarningsOf (target : TargetArch) (allowed : List Code) (beside : Beside) (named : String Global × JsonFilter)
    (own : FilterWarnings) : Type 0 where
  pub name : string_bytes own.name ≡ string_bytes named.0
  pub codes : List Code
  pub are_codes : AreCodesBeside allowed beside named.1 codes
  pub warnings : AreTrueWarnings target codes named.1 own.warned

-- How many warnings the filters have.
abbrev pub count_of : List FilterWarnings → ℕ
count_of all =
    sum_by (λ (own : FilterWarnings). length own.warned.of_part.warnings.items + length own.warned.evasions.items) all

-- They are those of these filters, in their order, and there are so many.
pub record AreWarningsIn (target : TargetArch) (allowed : List Code) (filters : List (String Global × JsonFilter)) (checked : CheckedPolicy)
    : Type 0 where
  pub beside : Beside
  pub is_beside : IsBeside filters beside
  pub each : AllZip (AreWarningsOf target allowed beside) filters checked.filters.items
  pub count_is : checked.count ≡ count_of checked.filters.items

-- All filters of the text have programs, and these are their warnings, but for those of the allowed codes.
pub record IsCheckOf (target : TargetArch) (allowed : List Code) (text : List ℕ) (checked : CheckedPolicy) : Type 0 where
  pub filters : JsonFilterMap
  pub of_text : OfValue text (λ d. AreFilters d filters × AreAllCompiled target d)
  pub are : AreWarningsIn target allowed filters.0.entries checked

-- The faults of a policy's text, with their places, of which the one at this place is told.
pub record AreTold (target : TargetArch) (text : List ℕ) (told : ℕ) (faults : List Fault) : Type 0 where
  pub first : ℕ
  pub placed : ArePlaced target text first faults
  pub there : told < length faults

-- Why a policy is rejected: its faults, with their places, or the first as the library tells it; or want of memory.
abbrev pub IsRefusal : TargetArch → List ℕ → AnswerError → Type 0
IsRefusal target text (Library e) = IsRefusedFor target text e
IsRefusal target text (Placed told faults) = AreTold target text told faults.items
IsRefusal target text OutOfMemory = ⊤
IsRefusal target text e = ⊥

-- The verdict if warnings are denied or not, and there are so many: different if there are some and they are denied.
abbrev pub verdict_where : Bool → ℕ → Verdict
verdict_where false count = Same
verdict_where true count = if count == 0 then Same else Different
