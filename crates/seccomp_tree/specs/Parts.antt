-- Rulings that go on one after the other, and those that compare one part of an argument: what private functions promise of them.
use Rattle.std.specs.Prelude.{◌≡◌, ◌≢◌, ℕ, ◌+◌, ◌*◌, ◌-◌, ◌/◌, ◌%◌, ◌<◌, ◌^◌, List, [], ◌∷◌, length, drop, Bool, true, false, ⊤}
use Rattle.std.specs.Prelude.{nat_eq, nat_lt, if◌then◌else◌, bit_and, Option, Some, None}
use Rattle.std.specs.List.{list_all}
use Rattle.seccompiler.specs.declared.bpf.sock_filter.{sock_filter}
use Rattle.seccompiler.specs.Machine.{IsRecord, word_at}
use Rattle.seccompiler.specs.Policy.{Condition}
use Rattle.seccompiler.specs.declared.backend.SeccompCmpArgLen.{SeccompCmpArgLen}
use Rattle.seccompiler.specs.declared.backend.SeccompCmpArgLen.TheVariants.{Dword, Qword}
use Rattle.seccompiler.specs.declared.backend.SeccompCmpOp.{SeccompCmpOp}
use Rattle.seccompiler.specs.declared.backend.SeccompCmpOp.TheVariants.{Eq, MaskedEq}
use Rattle.seccomp_tree.specs.declared.parting.Part.{Part}
use Rattle.seccomp_tree.specs.declared.steps.Target.{Target}
use Rattle.seccomp_tree.specs.declared.steps.Target.TheVariants.{Give}
use Rattle.seccomp_tree.specs.Decisions.{Ruling, conditions_steps, only, rules_length}
use Rattle.seccomp_tree.specs.Code.{Grows, IsIn, Leads, holds}

-- What the first of the rulings gives that holds for a record, or what comes after them.
abbrev pub met : List Ruling → Target → List ℕ → Target
met [] after r = after
met (d ∷ rest) after r = if list_all (holds r) d.conditions then Give d.value else met rest after r

-- How many steps the conditions take by themselves, up to the first of the rulings that holds.
abbrev pub met_steps : List Ruling → List ℕ → ℕ
met_steps [] r = 0
met_steps (d ∷ rest) r = conditions_steps d.conditions + (if list_all (holds r) d.conditions then 0 else met_steps rest r)

-- The target goes on as the first of the rulings that holds, and else as what comes after them, whatever the accumulator holds.
pub record AreInTurn (rulings : List Ruling) (old : List sock_filter) (after t : Target) (new : List sock_filter) : Type 0 where
  pub grows : Grows old (rules_length rulings) new
  pub inside : IsIn new t
  pub leads : (r : List ℕ) → IsRecord r → (w n : ℕ) → Leads 0 old r (met rulings after r) w n → Leads 0 new r t w (n + met_steps rulings r)

-- ---- parts

-- The mask under which one word of a record decides whether a condition holds for one value, or the high half of one for 64 bits; 0
-- if there is none.
abbrev pub part_mask : SeccompCmpArgLen → SeccompCmpOp → ℕ
part_mask Dword Eq = 2 ^ 32 - 1
part_mask Qword Eq = 2 ^ 32 - 1
part_mask Dword (MaskedEq m) = m % 2 ^ 32
part_mask Qword (MaskedEq m) = if nat_lt m (2 ^ 32) then m else 0
part_mask _ _ = 0

-- Where this word begins, for argument 0.
abbrev pub part_byte : SeccompCmpArgLen → SeccompCmpOp → ℕ
part_byte Qword Eq = 20
part_byte _ _ = 16

-- That half of a number.
abbrev pub half_of : SeccompCmpArgLen → SeccompCmpOp → ℕ → ℕ
half_of Qword Eq n = n / 2 ^ 32
half_of _ _ n = n % 2 ^ 32

-- What this word has to be under the mask.
abbrev pub part_value : SeccompCmpArgLen → SeccompCmpOp → ℕ → ℕ
part_value l Eq v = half_of l Eq v
part_value l (MaskedEq m) v = bit_and (v % 2 ^ 32) (part_mask l (MaskedEq m))
part_value _ _ v = 0

-- What the first of the conditions compares, and for which value.
abbrev pub compared : List Condition → Part
compared [] = record { byte = 0; mask = 0; value = 0 }
compared (c ∷ rest) = record {
  byte = part_byte c.arg_len c.operator + 8 * c.arg_index;
  mask = part_mask c.arg_len c.operator;
  value = part_value c.arg_len c.operator c.value;
}

-- The condition on the low half that is left of one for a value of 64 bits.
abbrev pub low_half_by : SeccompCmpArgLen → SeccompCmpOp → ℕ → ℕ → Option Condition
low_half_by Qword Eq index value = Some (record { arg_index = index; arg_len = Dword; operator = Eq; value = value % 2 ^ 32 })
low_half_by _ _ index value = None

abbrev pub low_half : Condition → Option Condition
low_half c = low_half_by c.arg_len c.operator c.arg_index c.value

-- The conditions with another in front, if there is one.
abbrev pub in_front_of : Option Condition → List Condition → List Condition
in_front_of (Some c) rest = c ∷ rest
in_front_of None rest = rest

-- The conditions without what the first compares.
abbrev pub rest_of : List Condition → List Condition
rest_of [] = []
rest_of (c ∷ rest) = in_front_of (low_half c) rest

-- The number that a part has in a record.
abbrev pub number : Part → List ℕ → ℕ
number p r = bit_and (word_at r p.byte) p.mask

-- A ruling compares this part first.
pub record IsParted (p : Part) (d : Ruling) : Type 0 where
  pub some : p.mask ≢ 0
  pub byte : (compared d.conditions).byte ≡ p.byte
  pub mask : (compared d.conditions).mask ≡ p.mask

abbrev pub AreParted : Part → List Ruling → Type 0
AreParted p [] = ⊤
AreParted p (d ∷ rest) = IsParted p d × AreParted p rest

-- Whether one of the rulings compares for this value.
abbrev pub occurs : List Ruling → ℕ → Bool
occurs [] v = false
occurs (d ∷ rest) v = if nat_eq v (compared d.conditions).value then true else occurs rest v

-- The rulings that compare for this value, with what is left of their conditions.
abbrev pub left_at : List Ruling → ℕ → List Ruling
left_at [] v = []
left_at (d ∷ rest) v =
    if nat_eq v (compared d.conditions).value then record { conditions = rest_of d.conditions; value = d.value } ∷ left_at rest v
    else left_at rest v

-- The rulings are of no run.
abbrev pub AreAlone : List Ruling → Type 0
AreAlone [] = ⊤
AreAlone (d ∷ rest) = (only d.conditions ≡ None) × AreAlone rest

-- The target goes on as the rulings from a place on, and else as what comes after them. They are of no run if the last is of none.
pub record IsGroup (rulings : List Ruling) (start : ℕ) (old : List sock_filter) (after t : Target) (new : List sock_filter) : Type 0 where
  pub below : start < length rulings
  pub alone : AreAlone (drop (length rulings - 1) rulings) → AreAlone (drop start rulings)
  pub turn : AreInTurn (drop start rulings) old after t new
