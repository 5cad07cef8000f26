use Rattle.std.proofs.Common.{sym, ◌∙◌, refl}
use Rattle.std.proofs.lemmas.Bool.{true≢false}
use Rattle.seccompiler.proofs.json.texts.value_of.Goals as goal

pub returns-in-Ok : goal.returns-in-Ok
returns-in-Ok c = let (utf8, value) = c.in-Ok.ensures.ok in
    (λ arch. (_, record { utf8 = utf8; value = value }, c.if-repeats_key.ensures.repeats.0 refl), tt, tt, tt)

pub returns-in-Err-2 : goal.returns-in-Err-2
returns-in-Err-2 c = (
  λ arch d is. let apart = sym is.value ∙ c.in-Err.ensures.err (λ memory. true≢false (sym (c.if-is_memory.ensures.1 memory))) is.utf8 in cc,
  tt,
  tt,
  λ memory. true≢false (sym (c.if-is_memory.ensures.1 memory)),
)

pub returns-in-Ok-2 : goal.returns-in-Ok-2
returns-in-Ok-2 c = let (utf8, value) = c.in-Ok.ensures.ok in record {
  is_read = record { utf8 = utf8; value = value };
  no_repeat = λ found. true≢false (sym (c.if-repeats_key.ensures.repeats.1 found));
}

pub returns-in-Err : goal.returns-in-Err
returns-in-Err c = (λ arch. tt, tt, tt, tt)
