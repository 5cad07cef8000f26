-- Why a request is refused, from why its parts are.
use Rattle.std.proofs.Common.{◌≡◌, ◌<◌, ◌≤◌, ◌^◌, ◌++◌, ℕ, ℤ, pos, negsuc, List, drop, length, w64, to_z, refl, sym, ap, ◌∙◌, subst, All}
use Rattle.std.proofs.Common.{arith}
use Rattle.std.proofs.lemmas.Int.{ints, to_z_pos}
use Rattle.std.proofs.lemmas.List.Elements.{All-contains, All-weaker}
use Rattle.seccomp_tree.specs.Layouts.{IsRefusalIn}
use Rattle.seccompiler.specs.Policy.{Filter, IsCallNumber}
use Rattle.seccompiler.specs.Compiled.{AreCallNumbers, numbers_of}
use Rattle.seccompiler.specs.SyscallTable.{IsTableNumber}
use Rattle.seccomp_tree.specs.declared.error.FilterError.{FilterError}
use Rattle.seccomp_tree.specs.declared.error.FilterError.TheVariants as filter
use Rattle.seccompiler.specs.declared.backend.TargetArch.{TargetArch}
use Rattle.seccomp_tree.specs.declared.layout.Layout.{Layout}
use Rattle.seccompiler.specs.declared.bpf.sock_filter.{sock_filter}
use Rattle.seccompiler_c.specs.Arguments.{IsArchitecture, IsLayout}
use Rattle.seccompiler_c.specs.Policies.{NamesPolicy, from_filter}
use Rattle.seccompiler_c.specs.Programs.{Request, OfProgram, Holds, IsRefusal, IsUncompiledIn}
use Rattle.seccompiler_c.specs.declared.fault.Fault.{Fault}
use Rattle.seccompiler_c.specs.declared.fault.Fault.TheVariants as fault

-- A number of a table is a call number.
table_number_fits : (z : ℤ) → IsTableNumber z → IsCallNumber z
table_number_fits (pos n) h = (n, refl, grind (arith, ints, h.1))
table_number_fits (negsuc n) h = absurd (grind (arith, ints, h.0))

-- What holds of lack of memory and of a length holds of all that a filter is refused for whose numbers are call
-- numbers.
pub of_refusal : (layout : Layout) (f : Filter) (P : FilterError → Type 0) → AreCallNumbers (numbers_of f.chains)
    → P filter.OutOfMemory
    → ((n : ℕ) → IsRefusalIn layout f (filter.FilterTooLarge n) → P (filter.FilterTooLarge n))
    → (IsRefusalIn layout f filter.TreeTooLarge → P filter.TreeTooLarge)
    → (e : FilterError) → IsRefusalIn layout f e → P e
of_refusal layout f P numbers memory long tree filter.OutOfMemory why = memory
of_refusal layout f P numbers memory long tree (filter.FilterTooLarge n) why = long n why
of_refusal layout f P numbers memory long tree filter.TreeTooLarge why = tree why
of_refusal layout f P numbers memory long tree (filter.InvalidSyscallNumber n) why =
    absurd (why.unfit (All-contains IsCallNumber (numbers_of f.chains) n numbers why.among))

-- A filter whose numbers are those of a table is refused for its length, or for lack of memory.
pub uncompiled : (layout : Layout) (f : Filter) → All IsTableNumber (numbers_of f.chains) → (e : FilterError) → IsRefusalIn layout f e
    → IsUncompiledIn layout f (from_filter e)
uncompiled layout f numbers = of_refusal layout f (λ e. IsUncompiledIn layout f (from_filter e))
    (All-weaker IsTableNumber IsCallNumber table_number_fits (numbers_of f.chains) numbers) tt (λ n why. why)
    (λ why. why)

-- What holds of the policy that is found holds of the policy of the name.
pub named_so : (target : TargetArch) (text name : List ℕ) (policy : Filter) (P : Filter → Type 0)
    → NamesPolicy target text name (λ p. p ≡ policy) → P policy → NamesPolicy target text name P
named_so target text name policy P (d, is, (all, (value, has, (p, own, same)))) holds =
    (d, is, (all, (value, has, (p, own, subst P (sym same) holds))))

module _ (r : Request) (target : TargetArch) (layout : Layout) (architecture : IsArchitecture r.architecture target)
    (number : IsLayout r.layout layout) where
  -- A request whose policy has no program is refused for that.
  pub no_program : (policy : Filter) → NamesPolicy target r.text r.name (λ p. p ≡ policy) → (f : Fault) → IsUncompiledIn layout policy f
      → IsRefusal r f
  no_program policy named fault.OutOfMemory why = (target, architecture, (layout, number, tt))
  no_program policy named (fault.Filter e) why = (target, architecture, (layout, number, named_so target r.text r.name policy _ named why))
  no_program policy named _ why = absurd why

-- What holds of a request's program is so of it.
pub programs_so : (r : Request) (P Q : List sock_filter → Type 0) → ((program : List sock_filter) → P program → Q program) → OfProgram r P
    → OfProgram r Q
programs_so r P Q so (target, architecture, (layout, number, (d, is, (all, (value, has, (policy, own, (program, compiled, holds))))))) =
    (target, architecture, (layout, number, (d, is, (all, (value, has, (policy, own, (program, compiled, so program holds)))))))

-- An array holds the program that is copied to its front.
pub holds : (old items front : List sock_filter) (n : ℕ) → n ≡ length items → front ≡ items → length items ≤ length old → n < 2 ^ 63
    → (program : List sock_filter) → program ≡ items → Holds old (front ++ drop n old) (to_z w64 n) program
holds old items front n count same room small program is = record {
  room = rw is room;
  written = rw (is, same, count) refl;
  told = to_z_pos w64 n small ∙ ap pos (count ∙ ap length (sym is));
}
