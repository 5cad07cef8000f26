-- For `listed_policies` and `policies_in`: the policies of a value's filters, and the refusal of the least name's.
use Rattle.std.proofs.Common.{◌≡◌, ℕ, ◌++◌, List, ◌∷◌, Option, Some, None, String, Global, IfSome, All, string_bytes, refl}
use Rattle.serde_json.specs.Data.{Data}
use Rattle.seccompiler.proofs.ByName.{ByName, AreInOrder, AreMade}
use Rattle.seccompiler.specs.Errors.{IsNoMemoryInFrontend}
use Rattle.seccompiler.specs.JsonAnswers.{OfEachText, HasPolicy, HasSomePolicy, ArePoliciesOf, IsLeastRefused, TellsFrontendFault}
use Rattle.seccompiler.specs.JsonFilters.{AreFound, under}
use Rattle.seccompiler.specs.JsonPolicyOf.{Fault, IsPolicyOf, IsFirstFault}
use Rattle.seccompiler.specs.JsonSteps.{IsNoFailedRead, IsShapeRefusal, Tells}
use Rattle.seccompiler.specs.JsonShape.{IsFilter}
use Rattle.seccompiler.specs.Policy.{Filter}
use Rattle.seccompiler.specs.Compiled.{numbers_of}
use Rattle.seccompiler.specs.SyscallTable.{IsTableNumber}
use Rattle.seccompiler.specs.declared.backend.TargetArch.{TargetArch}
use Rattle.seccompiler.specs.declared.json.error.JsonFrontendError.{JsonFrontendError}
use Rattle.seccompiler.specs.declared.json.error.JsonFrontendError.TheVariants as e
use Rattle.seccompiler.specs.JsonTypes.{JsonFilter}
use Rattle.seccompiler.proofs.TextFilters.{all_made, least_wrong, value_under}
use Rattle.seccompiler.proofs.json.policy.Policies.{numbers_in_range}

module _ (arch : TargetArch) (d : Data) where
  module _ (filters : ByName JsonFilter) (are : AreFound IsFilter (under filters) d) where
    -- The policies of the value's filters are the value's.
    pub are_policies : (made : ByName Filter) → AreMade (IsPolicyOf arch) filters made → ArePoliciesOf arch (under made) d
    are_policies made h = all_made IsFilter (IsPolicyOf arch) filters d are made h (HasPolicy arch) (λ value f policy is own. (f, is, own))

    -- Behind filters that have policies, the first fault of one that has none is that of the least name.
    pub least_refused : (front : ByName JsonFilter) (entry : String Global × JsonFilter) (back : ByName JsonFilter)
        → filters ≡ front ++ entry ∷ back → AreInOrder filters → (made : ByName Filter)
        → AreMade (IsPolicyOf arch) front made → (fault : Fault) → IsFirstFault arch entry.1 fault → IsLeastRefused arch fault d
    least_refused front entry back whole order made h fault first = (
      record { is_object = are.is_object; each = λ name value there. let known = are.each name value there in (known.found, known.own) },
      string_bytes entry.0,
      least_wrong IsFilter (IsPolicyOf arch) filters d are front entry back whole order made h (λ f. IsFirstFault arch f fault) first
          (HasSomePolicy arch) (λ value f policy is own. (policy, (f, is, own))),
    )

  -- The numbers of all policies are those of a table.
  pub have_table_numbers : (find : List ℕ → Option Filter) → ArePoliciesOf arch find d → (name : List ℕ)
      → IfSome (find name) (λ policy. All IsTableNumber (numbers_of policy.chains))
  have_table_numbers find are name = by (find name) refl
    where
      by : (o : Option Filter) → find name ≡ o → IfSome o (λ policy. All IsTableNumber (numbers_of policy.chains))
      by None none = tt
      by (Some policy) there =
          let own = value_under (HasPolicy arch) find d are name policy there in
          numbers_in_range arch own.2.0 policy own.2.2

  -- The refusal of the least name's filter is the first fault of the value's texts. It is no failed read, and no want of memory inside
  -- another error.
  pub refused_told : (e : JsonFrontendError) → Tells (λ fault. IsLeastRefused arch fault d) e
      → OfEachText d (λ text. TellsFrontendFault arch text e) × IsNoFailedRead e × IsNoMemoryInFrontend e
  refused_told (e.Backend x) h = (λ text is. (d, is, h.0), tt, h.1)
  refused_told (e.SyscallName name known) h = (λ text is. (d, is, h), tt, tt)
  refused_told e.OutOfMemory h = (λ text is. tt, tt, tt)
  refused_told e h = absurd h

  -- So is the shape that the value has.
  pub shape_told : (e : JsonFrontendError) → IsShapeRefusal d e
      → OfEachText d (λ text. TellsFrontendFault arch text e) × IsNoFailedRead e × IsNoMemoryInFrontend e
  shape_told e.NotAnObject h = (λ text is. (d, is, h), tt, tt)
  shape_told (e.Shape name) h = (λ text is. (d, is, h), tt, tt)
  shape_told e.OutOfMemory h = (λ text is. tt, tt, tt)
  shape_told e h = absurd h
