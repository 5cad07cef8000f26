use Rattle.std.proofs.Common.{◌≡◌, ℕ, List, String, Global, codes, sym, ap, ◌∙◌}
use Rattle.serde_json.specs.Data.{Data, string}
use Rattle.serde_json.specs.View.{view}
use Rattle.serde_json.specs.declared.value.Value.{Value}
use Rattle.serde_json.specs.declared.value.Value.TheVariants as v
use Rattle.seccompiler.specs.declared.backend.SeccompCmpArgLen.{SeccompCmpArgLen}
use Rattle.seccompiler.specs.declared.backend.SeccompCmpArgLen.TheVariants.{Dword, Qword}
use Rattle.seccompiler.specs.JsonShape.{IsArgLen}
use Rattle.seccompiler.proofs.json.members.FoundMembers.{view_text, no_text, other_text, text_found}
use Rattle.seccompiler.proofs.json.parts.read_arg_len.Goals as goal

-- What is no text is no length.
no_arg_len : (value : Value) → ((text : String Global) → value ≡ v.String text → ⊥) → (l : SeccompCmpArgLen)
    → IsArgLen (view value) l → ⊥
no_arg_len value other Dword h = no_text value other _ h
no_arg_len value other Qword h = no_text value other _ h

-- A text is a length only if it is one's name.
no_name : (d : Data) (text : List ℕ) → d ≡ string text → (text ≡ codes "dword" → ⊥) → (text ≡ codes "qword" → ⊥)
    → (l : SeccompCmpArgLen) → IsArgLen d l → ⊥
no_name d text is dword qword Dword h = other_text d text _ is dword h
no_name d text is dword qword Qword h = other_text d text _ is qword h

pub returns-in_default : goal.returns-in_default
returns-in_default c = record { found = tt; none = no_arg_len c.args.value.now c.in_default.not-String }

pub returns-in_default-as_str-clause-none : goal.returns-in_default-as_str-clause-none
returns-in_default-as_str-clause-none c = no_name (view c.args.value.now) c.as_str.result.now
    (ap view c.in-String.is ∙ view_text c.in-String.text ∙ ap string (sym c.as_str.ensures.value))
    c.in_default-as_str.not-dword c.in_default-as_str.not-qword

pub returns-in-dword : goal.returns-in-dword
returns-in-dword c = record { found = text_found _ _ _ _ c.in-String.is c.as_str.ensures.value c.in-dword.is; none = tt }

pub returns-in-qword : goal.returns-in-qword
returns-in-qword c = record { found = text_found _ _ _ _ c.in-String.is c.as_str.ensures.value c.in-qword.is; none = tt }
