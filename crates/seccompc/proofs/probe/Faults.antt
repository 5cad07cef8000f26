-- For `program_of` and `probe_filter`: what the refusals of the library mean for a probe's words.
use Rattle.std.proofs.Common.{◌≡◌, ℕ, zero, suc, ℤ, ◌<◌, List, [], ◌∷◌, All, Contains, refl, sym, subst, ap, arith}
use Rattle.std.proofs.lemmas.List.Elements.{All-head}
use Rattle.seccompiler.specs.declared.bpf.sock_filter.{sock_filter}
use Rattle.seccompiler.specs.declared.backend.TargetArch.{TargetArch}
use Rattle.seccompiler.specs.declared.backend.BackendError.{BackendError}
use Rattle.seccompiler.specs.declared.backend.BackendError.TheVariants.{FilterTooLarge, InvalidArgumentNumber, InvalidSyscallNumber}
use Rattle.seccompiler.specs.declared.backend.BackendError.TheVariants.{OutOfMemory}
use Rattle.seccompiler.specs.Errors.{from_backend}
use Rattle.seccompiler.specs.Layout.{counted_length}
use Rattle.seccompiler.specs.Policy.{Filter, IsCallNumber}
use Rattle.seccompiler.specs.Compiled.{IsCompiled, IsRefusal, IsCompilable, numbers_of}
use Rattle.seccompc.specs.Errors.{from_library}
use Rattle.seccompc.specs.Faults.{IsNameOf, IsRefusedName}
use Rattle.seccompc.specs.declared.error.ToolError.{ToolError}
use Rattle.seccompc.specs.declared.error.ToolError.TheVariants as tool
use Rattle.seccompc.specs.Probe.{IsRefusedProbe, no_architecture, no_argument, no_call_number}
use Rattle.seccompc.specs.EngineSteps.{IsFilterFor, IsCompiledFor}

-- A name that is refused is the words' first fault.
pub name_is_probe : (arch : List ℕ) (nr : ℤ) (index : ℕ) (e : ToolError) → IsRefusedName arch e → IsRefusedProbe arch nr index e
name_is_probe arch nr index (tool.Library e) refused = no_architecture refused
name_is_probe arch nr index _ refused = refused

-- An index that is refused is no argument's.
pub index_refused : (arch : List ℕ) (nr : ℤ) (index : ℕ) (target : TargetArch) → IsNameOf arch target → 5 < index
    → IsRefusedProbe arch nr index (from_library (from_backend InvalidArgumentNumber))
index_refused arch nr index target named above = no_argument target named above refl

-- One number alone is among the numbers of a probe's filter.
only_number : (nr n : ℤ) → Contains (nr ∷ []) n → n ≡ nr
only_number nr n (zero, room, at) = sym at
only_number nr n (suc k, room, at) = absurd (omega arith)

-- A filter of a probe that is refused has no call number.
pub filter_refused : (arch : List ℕ) (nr : ℤ) (index value : ℕ) (f : Filter) (e : BackendError) → IsFilterFor arch nr index value f
    → IsRefusal f e
    → IsRefusedProbe arch nr index (from_library (from_backend e))
filter_refused arch nr index value f (FilterTooLarge n) for cause = absurd (omega (arith, ap counted_length for.filter, cause.large))
filter_refused arch nr index value f (InvalidSyscallNumber n) for cause =
    let among : Contains (nr ∷ []) n = subst (λ (g : Filter). Contains (numbers_of g.chains) n) for.filter cause.among in
    let same = only_number nr n among in
    no_call_number for.target for.named for.argument (λ fits. cause.unfit (subst IsCallNumber (sym same) fits))
    (ap (λ m. from_backend (InvalidSyscallNumber m)) same)
filter_refused arch nr index value f OutOfMemory for cause = tt
filter_refused arch nr index value f _ for cause = absurd cause

-- A filter of a probe that is compiled has one.
pub filter_compiled : (arch : List ℕ) (nr : ℤ) (index value : ℕ) (f : Filter) (program : List sock_filter)
    → IsFilterFor arch nr index value f
    → IsCompilable f → IsCompiled f program → IsCompiledFor arch nr index value program
filter_compiled arch nr index value f program for fits compiled =
    let numbers = subst (λ (g : Filter). All IsCallNumber (numbers_of g.chains)) for.filter fits.numbers in
    record {
      faultless = record { target = for.target; named = for.named; argument = for.argument; number = All-head IsCallNumber nr [] numbers };
      compiled = subst (λ g. IsCompiled g program) for.filter compiled;
    }
