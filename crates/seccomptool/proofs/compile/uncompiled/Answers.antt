use Rattle.seccomptool.proofs.Common.{◌∙◌, Profile, ap, subst, sym}
use Rattle.seccomptool.specs.Causes.{IsFaultText, names_text}
use Rattle.seccomptool.proofs.compile.uncompiled.Goals as goal

pub returns-in-Ok-told : goal.returns-in-Ok-told
returns-in-Ok-told c = names_text c.in-UnknownNames.names (c.in-Profile.is ∙ ap Profile c.in-UnknownNames.is) tt

pub returns-in-Err-told : goal.returns-in-Err-told
returns-in-Err-told c =
    names_text c.in-UnknownNames.names (c.in-Profile.is ∙ ap Profile c.in-UnknownNames.is) (subst IsFaultText (sym c.into.ensures) tt)
