-- For `listed_programs` and `programs_in`: the programs of a value's policies, and the refusal of the least name's.
use Rattle.std.proofs.Common.{◌≡◌, ℕ, ℤ, ◌++◌, List, ◌∷◌, Option, Some, None, String, Global, Vec, string_bytes, refl, IfSome, arith, ap}
use Rattle.std.proofs.Common.{◌∙◌, subst, All}
use Rattle.std.proofs.lemmas.Int.{ints}
use Rattle.std.proofs.lemmas.List.Elements.{All-contains}
use Rattle.serde_json.specs.Data.{Data}
use Rattle.seccompiler.proofs.ByName.{ByName, AreInOrder, AreMade, found_there}
use Rattle.seccompiler.specs.Machine.{IsChecked}
use Rattle.seccompiler.specs.Errors.{from_backend, from_frontend, IsNoMemoryInFrontend, IsNoMemoryInside, IsNoReader}
use Rattle.seccompiler.specs.JsonSteps.{IsNoFailedRead}
use Rattle.seccompiler.specs.JsonAnswers.{IsValueOf, HasPolicy, ArePoliciesOf, TellsFrontendFault}
use Rattle.seccompiler.specs.JsonFilters.{under}
use Rattle.seccompiler.specs.JsonPrograms.{AreProgramsOf, IsLeastTooLarge, TellsFirstFault}
use Rattle.seccompiler.specs.Policy.{Filter, IsCallNumber}
use Rattle.seccompiler.specs.Compiled.{numbers_of, IsCompiled, IsCompilable, IsRefusal, IsTooLarge}
use Rattle.seccompiler.specs.SyscallTable.{IsTableNumber}
use Rattle.seccompiler.specs.declared.backend.BackendError.{BackendError}
use Rattle.seccompiler.specs.declared.backend.BackendError.TheVariants as b
use Rattle.seccompiler.specs.declared.backend.TargetArch.{TargetArch}
use Rattle.seccompiler.specs.declared.bpf.sock_filter.{sock_filter}
use Rattle.seccompiler.specs.declared.json.error.JsonFrontendError.{JsonFrontendError}
use Rattle.seccompiler.specs.declared.json.error.JsonFrontendError.TheVariants as f
use Rattle.seccompiler.proofs.TextFilters.{value_under, all_made, least_wrong}
use Rattle.seccompiler.proofs.json.compiler.TextPolicies.{have_table_numbers}

-- A number of a table is a call number.
table_number_fits : (z : ℤ) → IsTableNumber z → IsCallNumber z
table_number_fits z h = grind (arith, ints)

-- The policy may be compiled, and the program stands for it.
pub record Compiles (policy : Filter) (program : Vec sock_filter Global) : Type 0 where
  pub compilable : IsCompilable policy
  pub compiled : IsCompiled policy program.items

module _ (arch : TargetArch) (d : Data) (policies : ByName Filter) (are : ArePoliciesOf arch (under policies) d) where
  -- The programs for the value's policies are the value's.
  pub are_programs : (made : ByName (Vec sock_filter Global)) → AreMade Compiles policies made → AreProgramsOf arch (under made) d
  are_programs made h = all_made (HasPolicy arch) Compiles policies d are made h _
      (λ value policy program has made. record { policy = policy; is_policy = has; compiled = made.compiled })

  module _ (front : ByName Filter) (entry : String Global × Filter) (back : ByName Filter)
      (whole : policies ≡ front ++ entry ∷ back) (order : AreInOrder policies)
      (made : ByName (Vec sock_filter Global)) (h : AreMade Compiles front made) where
    -- Behind policies that are compiled, one that is too large is that of the least name.
    least_too_large : (n : ℕ) → IsTooLarge entry.1 n → IsLeastTooLarge arch n d
    least_too_large n wrong = (
      record { is_object = are.is_object; each = λ name value there. let policy = are.each name value there in (policy.found, policy.own) },
      string_bytes entry.0,
      least_wrong (HasPolicy arch) Compiles policies d are front entry back whole order made h (λ policy. IsTooLarge policy n) wrong _
          (λ value policy program has own. (policy, has, own.compilable)),
    )

    -- Its refusal is the first fault of a text of the value, whose policies have numbers of a table.
    pub refusal_of : (text : List ℕ) → IsValueOf text d → (e : BackendError) → IsRefusal entry.1 e
        → TellsFirstFault arch text (from_backend e)
    refusal_of text is (b.FilterTooLarge n) wrong = (d, is, least_too_large n wrong)
    refusal_of text is (b.InvalidSyscallNumber n) wrong =
        let there : under policies (string_bytes entry.0) ≡ Some entry.1 =
        ap (λ (es : ByName Filter). under es (string_bytes entry.0)) whole
        ∙ found_there front entry back (subst (λ (es : ByName Filter). AreInOrder es) whole order) in
        let own : All IsTableNumber (numbers_of entry.1.chains) =
        rw there at (have_table_numbers arch d (under policies) are (string_bytes entry.0)) in
        absurd (wrong.unfit (table_number_fits n (All-contains IsTableNumber (numbers_of entry.1.chains) n own wrong.among)))
    refusal_of text is b.OutOfMemory wrong = tt
    refusal_of text is e wrong = absurd wrong

-- A fault of the front end is the first.
pub told_by_frontend : (arch : TargetArch) (text : List ℕ) (e : JsonFrontendError) → TellsFrontendFault arch text e
    → TellsFirstFault arch text (from_frontend e)
told_by_frontend arch text e h = grind arith

-- If no lack of memory is inside the front end's error, none is inside the crate's.
pub none_inside : (e : JsonFrontendError) → IsNoMemoryInFrontend e → IsNoMemoryInside (from_frontend e)
none_inside f.OutOfMemory h = tt
none_inside e h = (λ same. cc, h)

-- If the front end's error is no failed read, the crate's is none.
pub read_nothing : (e : JsonFrontendError) → IsNoFailedRead e → IsNoReader (from_frontend e)
read_nothing f.OutOfMemory h = tt
read_nothing e h = h

-- A refusal of the backend is no failed read.
pub no_reader_refused : (e : BackendError) → IsNoReader (from_backend e)
no_reader_refused b.OutOfMemory = tt
no_reader_refused e = tt

-- None is inside a refusal of the backend.
pub none_in_refusal : (e : BackendError) → IsNoMemoryInside (from_backend e)
none_in_refusal b.OutOfMemory = tt
none_in_refusal e = λ same. cc

-- Each of a value's programs may be run.
pub all_checked : (arch : TargetArch) (find : List ℕ → Option (Vec sock_filter Global)) (d : Data)
    → AreProgramsOf arch find d → (name : List ℕ) → IfSome (find name) (λ program. IsChecked program.items)
all_checked arch find d are name = by (find name) refl
  where
    by : (o : Option (Vec sock_filter Global)) → find name ≡ o → IfSome o (λ program. IsChecked program.items)
    by None is = tt
    by (Some program) is = let value = value_under _ find d are name program is in value.2.compiled.checked
