-- Filters that differ in the order of rules and conditions alone, records that differ in the instruction pointer alone,
-- and conditions on the low half of an argument that differ in high halves alone.
use Rattle.std.specs.Prelude.{◌≡◌, ℕ, ℤ, ◌%◌, ◌^◌, ◌<◌, ◌≤◌, ◌⊎◌, List, slice_index}
use Rattle.std.specs.List.{AllZip}
use Rattle.std.specs.List.Sorted.{IsPermutation}
use Rattle.seccompiler.specs.declared.backend.SeccompCmpArgLen.TheVariants.{Dword}
use Rattle.seccompiler.specs.Policy.{Condition, Chain, Filter, operator_part}

-- The second chain has the rules of the first in another order or the same, and so has each rule its conditions.
pub record IsReorderedChain (chain chain' : Chain) : Type 0 where
  pub middle : Chain
  pub rules : IsPermutation chain middle
  pub conditions : AllZip IsPermutation middle chain'

-- Two entries have one call number, and the second's chain is the first's reordered.
pub record IsReorderedEntry (e e' : ℤ × Chain) : Type 0 where
  pub number : e.0 ≡ e'.0
  pub chain : IsReorderedChain e.1 e'.1

-- Two filters have the same call numbers, actions and architecture, and each chain of the second is the first's
-- with its rules, and the conditions in each rule, in another order or the same.
pub record IsReordered (f g : Filter) : Type 0 where
  pub chains : AllZip IsReorderedEntry f.chains g.chains
  pub mismatch_action : f.mismatch_action ≡ g.mismatch_action
  pub match_action : f.match_action ≡ g.match_action
  pub target_arch : f.target_arch ≡ g.target_arch

-- Two records agree in every byte but bytes 8 to 15, the instruction pointer (linux/seccomp.h).
pub record IsSameCall (r s : List ℕ) : Type 0 where
  pub bytes : (k : ℕ) → (k < 8) ⊎ (16 ≤ k) → slice_index r k ≡ slice_index s k

-- Two conditions on the low half of one argument have the same operator, and agree in the low 32 bits of the value and of the mask.
pub record IsSameLowHalf (c d : Condition) : Type 0 where
  pub first_length : c.arg_len ≡ Dword
  pub second_length : d.arg_len ≡ Dword
  pub index : c.arg_index ≡ d.arg_index
  pub operator : operator_part Dword c.operator ≡ operator_part Dword d.operator
  pub value : c.value % 2 ^ 32 ≡ d.value % 2 ^ 32
