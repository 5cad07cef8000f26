use Rattle.std.proofs.Common.{◌≡◌, ℕ, List, [], ◌∷◌, length, refl, sym, ◌∙◌, append_assoc, append-nil}
use Rattle.std.specs.Str.{chars}
use Rattle.std.proofs.lemmas.Str.{IsUtf8-past_char, chars_past_char}
use Rattle.seccomp_text.specs.Readable.{readable}
use Rattle.seccomp_text.specs.declared.readable.TextKind.{TextKind}
use Rattle.seccomp_text.proofs.readable.push_readable.Goals as goal

pub loop-character-preserved : goal.loop-character-preserved
loop-character-preserved c =
    let held = c.loop-character.invariant in
    let parts = c.in-Some.ensures.steps.0 in
    let step = chars_past_char _ _ c.in-Some.character held.0 parts in
    (IsUtf8-past_char _ _ c.in-Some.character held.0 parts, rw (c.in_ok-push_character.ensures, append_assoc) (rw step at held.1))

-- Of nothing, nothing is read.
nothing_left : (kind : TextKind) (given : List ℕ) → length given ≡ 0 → readable kind given ≡ []
unfolding chars
nothing_left kind [] none = refl
nothing_left kind (b ∷ bytes) none = absurd cc

pub returns : goal.returns
returns c = sym (append-nil _) ∙ rw (nothing_left c.args.kind _ c.in-None.ensures.steps.0.0) at c.loop-character.invariant.1
