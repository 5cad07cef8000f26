-- How long the program of a filter of arrays is.
use Rattle.std.specs.Prelude.{◌≡◌, ◌-◌, ◌^◌, ℕ, ℤ, pos, min, List, length, ⊤}
use Rattle.seccompiler.specs.Layout.{counted_length}
use Rattle.seccompiler.specs.Policy.{Filter}
use Rattle.seccompiler.specs.declared.bpf.sock_filter.{sock_filter}
use Rattle.seccomp_tree.specs.Layouts.{IsTreeCompiled, IsTreeTooLarge}
use Rattle.seccomp_tree.specs.declared.layout.Layout.{Layout}
use Rattle.seccomp_tree.specs.declared.layout.Layout.TheVariants.{Linear, Tree}
use Rattle.seccompiler_c.specs.ArraysDemands.{arrays_code_of}
use Rattle.seccompiler_c.specs.ArraysPrograms.{ArraysRequest, IsNoFilter, OfFilter}
use Rattle.seccompiler_c.specs.declared.arrays_fault.ArraysFault.{ArraysFault}
use Rattle.seccompiler_c.specs.declared.arrays_fault.ArraysFault.TheVariants.{OutOfMemory, TooLarge}

-- The filter's program has so many instructions in the layout; or, in the linear one, would have them, were it not more
-- than 4096.
abbrev pub IsLengthIn : Layout → Filter → ℕ → Type 0
IsLengthIn Linear f n = n ≡ counted_length f
IsLengthIn Tree f n = (p : List sock_filter) × IsTreeCompiled f p × (length p ≡ n)

-- Why no length of a filter's program in a layout is reported: it is too large for a tree, or memory runs out.
abbrev pub IsUnmeasured : Layout → Filter → ArraysFault → Type 0
IsUnmeasured layout f OutOfMemory = ⊤
IsUnmeasured Tree f TooLarge = IsTreeTooLarge f
IsUnmeasured layout f fault = ⊥

-- Why a request has no length: it has no filter, or that is too large for a tree.
abbrev pub IsNoLength : ArraysRequest → ArraysFault → Type 0
IsNoLength r TooLarge = OfFilter r (λ layout f. IsUnmeasured layout f TooLarge)
IsNoLength r fault = IsNoFilter r fault

-- The answer is the length of the filter's program in the layout, or the greatest number of its type, if that is less.
pub record TellsLength (layout : Layout) (f : Filter) (answer : ℤ) : Type 0 where
  pub length : ℕ
  pub is : IsLengthIn layout f length
  pub told : answer ≡ pos (min length (2 ^ 63 - 1))

-- What seccompiler_rules_length answers.
pub data AnswersLength (r : ArraysRequest) (answer : ℤ) : Type 0 where
  counted : OfFilter r (λ layout f. TellsLength layout f answer) → AnswersLength r answer
  refused : (fault : ArraysFault) → IsNoLength r fault → answer ≡ arrays_code_of fault → AnswersLength r answer
