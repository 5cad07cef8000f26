use Rattle.std.proofs.Common.{◌≡◌, ℕ, ◌^◌, ◌-◌, List, String, Global, codes, sym, ap, ◌∙◌}
use Rattle.serde_json.specs.Data.{Data, string}
use Rattle.serde_json.specs.View.{view}
use Rattle.serde_json.specs.declared.value.Value.{Value}
use Rattle.serde_json.specs.declared.value.Value.TheVariants as v
use Rattle.seccompiler.specs.declared.backend.SeccompCmpOp.{SeccompCmpOp}
use Rattle.seccompiler.specs.declared.backend.SeccompCmpOp.TheVariants.{Eq, Ge, Gt, Le, Lt, MaskedEq, Ne}
use Rattle.seccompiler.specs.JsonShape.{IsNumbered, IsOperator}
use Rattle.seccompiler.proofs.json.members.FoundMembers.{view_text, no_text, other_text, text_found}
use Rattle.seccompiler.proofs.json.parts.read_operator.Goals as goal

-- What is no text, and has no mask alone, is no operator.
no_operator : (value : Value) → ((text : String Global) → value ≡ v.String text → ⊥)
    → ((mask : ℕ) → IsNumbered (2 ^ 64 - 1) (codes "masked_eq") (view value) mask → ⊥)
    → (op : SeccompCmpOp) → IsOperator (view value) op → ⊥
no_operator value other masked (MaskedEq mask) h = masked mask h
no_operator value other masked op h = no_text value other _ h

-- A text is an operator only if it is one's name.
module _ (d : Data) (text : List ℕ) (is : d ≡ string text) where
  no_name : (text ≡ codes "eq" → ⊥) → (text ≡ codes "ge" → ⊥) → (text ≡ codes "gt" → ⊥) → (text ≡ codes "le" → ⊥)
      → (text ≡ codes "lt" → ⊥) → (text ≡ codes "ne" → ⊥) → (op : SeccompCmpOp) → IsOperator d op → ⊥
  no_name eq ge gt le lt ne Eq h = other_text d text _ is eq h
  no_name eq ge gt le lt ne Ge h = other_text d text _ is ge h
  no_name eq ge gt le lt ne Gt h = other_text d text _ is gt h
  no_name eq ge gt le lt ne Le h = other_text d text _ is le h
  no_name eq ge gt le lt ne Lt h = other_text d text _ is lt h
  no_name eq ge gt le lt ne (MaskedEq mask) h = let both = sym is ∙ h.names.is_object.1 in cc
  no_name eq ge gt le lt ne Ne h = other_text d text _ is ne h

pub returns-in_default-number_alone : goal.returns-in_default-number_alone
returns-in_default-number_alone c = record {
  found = tt;
  none = no_operator c.args.value.now c.in_default.not-String c.in_default-number_alone.ensures.none;
}

pub returns-in_default-as_str-clause-none : goal.returns-in_default-as_str-clause-none
returns-in_default-as_str-clause-none c =
    let other = c.in_default-as_str in
    no_name (view c.args.value.now) c.as_str.result.now
    (ap view c.in-String.is ∙ view_text c.in-String.text ∙ ap string (sym c.as_str.ensures.value))
    other.not-eq other.not-ge other.not-gt other.not-le other.not-lt other.not-ne

pub returns-in-eq : goal.returns-in-eq
returns-in-eq c = record { found = text_found _ _ _ _ c.in-String.is c.as_str.ensures.value c.in-eq.is; none = tt }

pub returns-in-ge : goal.returns-in-ge
returns-in-ge c = record { found = text_found _ _ _ _ c.in-String.is c.as_str.ensures.value c.in-ge.is; none = tt }

pub returns-in-gt : goal.returns-in-gt
returns-in-gt c = record { found = text_found _ _ _ _ c.in-String.is c.as_str.ensures.value c.in-gt.is; none = tt }

pub returns-in-le : goal.returns-in-le
returns-in-le c = record { found = text_found _ _ _ _ c.in-String.is c.as_str.ensures.value c.in-le.is; none = tt }

pub returns-in-lt : goal.returns-in-lt
returns-in-lt c = record { found = text_found _ _ _ _ c.in-String.is c.as_str.ensures.value c.in-lt.is; none = tt }

pub returns-in-ne : goal.returns-in-ne
returns-in-ne c = record { found = text_found _ _ _ _ c.in-String.is c.as_str.ensures.value c.in-ne.is; none = tt }
