-- What `explain` gives: what a filter of a policy, or a profile, decides on records, and why.
use Rattle.std.specs.Prelude.{◌≡◌, ℕ, ◌^◌, ◌-◌, List, [], MatchOption, Option, Some, Vec, min, option_map, string_bytes}
use Rattle.std.specs.List.{AllZip}
use Rattle.std.specs.declared.alloc.Global.{Global}
use Rattle.seccompiler.specs.declared.backend.TargetArch.{TargetArch}
use Rattle.seccompiler.specs.declared.bpf.sock_filter.{sock_filter}
use Rattle.seccompiler.specs.JsonAnswers.{OfValue}
use Rattle.seccompiler.specs.JsonPolicyOf.{IsPolicyOf}
use Rattle.seccompiler.specs.JsonShape.{IsFilter, Under}
use Rattle.seccompiler.specs.JsonTypes.{JsonFilter}
use Rattle.seccompiler.specs.Policy.{Filter}
use Rattle.seccomp_compare.specs.Machine.{Ends}
use Rattle.seccomp_entries.specs.Entries.{IsDecided, Lowered, value_of}
use Rattle.seccomp_entries.specs.Policies.{DecidesAs, IsLoweredPolicy}
use Rattle.seccomp_entries.specs.Reasons.{IsReason}
use Rattle.seccomp_entries.specs.declared.reason.Reason.{Reason}
use Rattle.seccomp_profiles.specs.Abis.{IsSeenAs, machine_of}
use Rattle.seccomp_profiles.specs.declared.types.Abi.{Abi}
use Rattle.seccomp_profiles.specs.Lowered.{DecidesOn, IsLoweredOn}
use Rattle.seccomp_profiles.specs.ProfileText.{IsProfileText}
use Rattle.seccomp_profiles.specs.Types.{Container, Profile}
use Rattle.seccomp_stack.specs.Stack.{HaveSteps, IsDecidedAt, IsStackDecision}
use Rattle.seccomp_answers.specs.declared.explain.Explained.{Explained}
use Rattle.seccomp_answers.specs.declared.explain.Explanation.{Explanation}
use Rattle.seccomp_answers.specs.declared.explain.Why.TheVariants as variant
use Rattle.seccomp_answers.specs.declared.kind.Reading.{Reading}
use Rattle.seccomp_answers.specs.declared.kind.Subject.{Subject}
use Rattle.seccomp_answers.specs.declared.kind.Subject.TheVariants as subject
use Rattle.seccomp_answers.specs.Chosen.{IsChosen}
use Rattle.seccomp_answers.specs.Kinds.{IsTakenAs}
use Rattle.seccomp_answers.specs.Calls.{number_for, number_on}
use Rattle.seccomp_answers.specs.Programs.{IsProgramOf}

-- ---- entries

-- The entries decide this on the record, for the only reason that there is.
pub record IsExplainedBy (l : Lowered) (r : List ℕ) (e : Explained) : Type 0 where
  pub reason : Reason
  pub is : e.why ≡ variant.Entries reason
  pub why : IsReason l.target_arch l.entries r reason
  pub only : (other : Reason) → IsReason l.target_arch l.entries r other → other ≡ reason
  pub decided : IsDecided l r e.word

-- ---- filters

-- The filter that is asked for, or the only one, of the policy's text, in one form, decides so on the records, as its policy does.
pub record IsOfPolicy (target : TargetArch) (asked : Option (List ℕ)) (text : List ℕ) (records : List (List ℕ)) (e : Explanation) : Type 0
  where
    pub name : List ℕ
    pub named : option_map string_bytes e.name ≡ Some name
    pub chosen : IsChosen text asked name
    pub filter : JsonFilter
    pub of_text : OfValue text (λ d. Under d name (λ value. IsFilter value filter))
    pub policy : (f : Filter) × IsPolicyOf target filter f
    pub lowered : Lowered
    pub is_lowered : IsLoweredPolicy target filter lowered
    pub decides : DecidesAs target filter lowered
    pub entries : e.entries.items ≡ lowered.entries
    pub each : AllZip (IsExplainedBy lowered) records e.records.items

-- ---- profiles

-- So they do on the record as it is seen on the machine.
abbrev pub IsExplainedOn : Abi → Lowered → (r : List ℕ) → Explained → Type 0
IsExplainedOn abi l r e = (seen : List ℕ) × IsSeenAs abi r seen × IsExplainedBy l seen e

-- The profile of the text, in one form, decides so on the records, as the profile does.
pub record IsOfProfile (abi : Abi) (container : Container) (text : List ℕ) (records : List (List ℕ)) (e : Explanation) : Type 0
  where
    pub profile : Profile
    pub of_text : IsProfileText text profile
    pub lowered : Lowered
    pub is_lowered : IsLoweredOn abi container profile lowered
    pub decides : DecidesOn abi container profile lowered
    pub default : e.default ≡ Some (value_of profile.default)
    pub entries : e.entries.items ≡ lowered.entries
    pub each : AllZip (IsExplainedOn abi lowered) records e.records.items

-- ---- programs

-- The program ends on the record with this word, after so many steps.
pub record IsReturned (abi : Abi) (program : List sock_filter) (r : List ℕ) (e : Explained) : Type 0 where
  pub steps : ℕ
  pub is : e.why ≡ variant.Program (number_on abi r) steps
  pub ends : Ends program r steps e.word

-- The program that is given ends so on the records.
pub record IsOfProgram (abi : Abi) (given : List ℕ) (records : List (List ℕ)) (e : Explanation) : Type 0 where
  pub program : List sock_filter
  pub is_program : IsProgramOf given program
  pub each : AllZip (IsReturned abi program) records e.records.items

-- ---- programs that hold together

-- The kernel makes this of the programs' answers to the record, and the one at this place decides. They take so many steps
-- together; if those don't fit in 64 bits, the greatest number is given.
pub record IsOfStack (target : TargetArch) (programs : List (Vec sock_filter Global)) (r : List ℕ) (e : Explained) : Type 0 where
  pub place : Option ℕ
  pub steps : ℕ
  pub taken : HaveSteps r programs steps
  pub is : e.why ≡ variant.Layer (number_for target r) place (min steps (2 ^ 64 - 1))
  pub word : IsStackDecision r programs e.word
  pub decided : MatchOption place (programs ≡ []) (λ at. IsDecidedAt r programs at e.word)

-- ---- what is given

-- What is given decides so on the records, and why: a policy's filter, a profile or a program.
abbrev pub IsExplainedAs : Abi → Subject → (asked : Option (List ℕ)) → (given : List ℕ) → (records : List (List ℕ)) → Explanation
    → Type 0
IsExplainedAs abi subject.Policy asked text records e = IsOfPolicy (machine_of abi) asked text records e
IsExplainedAs abi (subject.Profile container) asked text records e = IsOfProfile abi container.now text records e
IsExplainedAs abi subject.Program asked bytes records e = IsOfProgram abi bytes records e

abbrev pub Explains : Abi → Reading → (asked : Option (List ℕ)) → (given : List ℕ) → (records : List (List ℕ)) → Explanation → Type 0
Explains abi reading asked given records e =
    (kind : Subject) × IsTakenAs reading given kind × IsExplainedAs abi kind asked given records e
