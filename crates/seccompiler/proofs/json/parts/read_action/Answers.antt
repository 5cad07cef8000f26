use Rattle.std.proofs.Common.{◌≡◌, ℕ, ◌^◌, ◌-◌, List, String, Global, codes, sym, ap, ◌∙◌}
use Rattle.serde_json.specs.Data.{Data, string}
use Rattle.serde_json.specs.View.{view}
use Rattle.serde_json.specs.declared.value.Value.{Value}
use Rattle.serde_json.specs.declared.value.Value.TheVariants as v
use Rattle.seccompiler.specs.declared.backend.SeccompAction.{SeccompAction}
use Rattle.seccompiler.specs.declared.backend.SeccompAction.TheVariants.{Allow, Errno, KillThread, KillProcess, Log, Trace, Trap}
use Rattle.seccompiler.specs.JsonShape.{IsNumbered, IsAction}
use Rattle.seccompiler.proofs.json.members.FoundMembers.{view_text, no_text, other_text, text_found}
use Rattle.seccompiler.proofs.json.parts.read_action.Goals as goal

-- What is no text, and has no number under either name alone, is no action.
no_action : (value : Value) → ((text : String Global) → value ≡ v.String text → ⊥)
    → ((n : ℕ) → IsNumbered (2 ^ 32 - 1) (codes "errno") (view value) n → ⊥)
    → ((n : ℕ) → IsNumbered (2 ^ 32 - 1) (codes "trace") (view value) n → ⊥)
    → (a : SeccompAction) → IsAction (view value) a → ⊥
no_action value other errno trace (Errno n) h = errno n h
no_action value other errno trace (Trace n) h = trace n h
no_action value other errno trace a h = no_text value other _ h

-- A text is an action only if it is one's name.
module _ (d : Data) (text : List ℕ) (is : d ≡ string text) where
  no_name : (text ≡ codes "allow" → ⊥) → (text ≡ codes "kill_thread" → ⊥) → (text ≡ codes "kill_process" → ⊥)
      → (text ≡ codes "log" → ⊥) → (text ≡ codes "trap" → ⊥) → (a : SeccompAction) → IsAction d a → ⊥
  no_name allow kill_thread kill_process log trap Allow h = other_text d text _ is allow h
  no_name allow kill_thread kill_process log trap (Errno n) h = let both = sym is ∙ h.names.is_object.1 in cc
  no_name allow kill_thread kill_process log trap KillThread h = other_text d text _ is kill_thread h
  no_name allow kill_thread kill_process log trap KillProcess h = other_text d text _ is kill_process h
  no_name allow kill_thread kill_process log trap Log h = other_text d text _ is log h
  no_name allow kill_thread kill_process log trap (Trace n) h = let both = sym is ∙ h.names.is_object.1 in cc
  no_name allow kill_thread kill_process log trap Trap h = other_text d text _ is trap h

pub returns-in_default : goal.returns-in_default
returns-in_default c = record {
  found = tt;
  none = no_action c.args.value.now c.in_default.not-String c.in_default-number_alone.ensures.none
      c.in_default-number_alone-2.ensures.none;
}

pub returns-in_default-as_str-clause-none : goal.returns-in_default-as_str-clause-none
returns-in_default-as_str-clause-none c =
    let other = c.in_default-as_str in
    no_name (view c.args.value.now) c.as_str.result.now
    (ap view c.in-String.is ∙ view_text c.in-String.text ∙ ap string (sym c.as_str.ensures.value))
    other.not-allow other.not-kill_thread other.not-kill_process other.not-log other.not-trap

pub returns-in-allow : goal.returns-in-allow
returns-in-allow c = record { found = text_found _ _ _ _ c.in-String.is c.as_str.ensures.value c.in-allow.is; none = tt }

pub returns-in-kill_thread : goal.returns-in-kill_thread
returns-in-kill_thread c = record { found = text_found _ _ _ _ c.in-String.is c.as_str.ensures.value c.in-kill_thread.is; none = tt }

pub returns-in-kill_process : goal.returns-in-kill_process
returns-in-kill_process c = record { found = text_found _ _ _ _ c.in-String.is c.as_str.ensures.value c.in-kill_process.is; none = tt }

pub returns-in-log : goal.returns-in-log
returns-in-log c = record { found = text_found _ _ _ _ c.in-String.is c.as_str.ensures.value c.in-log.is; none = tt }

pub returns-in-trap : goal.returns-in-trap
returns-in-trap c = record { found = text_found _ _ _ _ c.in-String.is c.as_str.ensures.value c.in-trap.is; none = tt }
