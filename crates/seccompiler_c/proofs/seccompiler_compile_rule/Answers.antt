use Rattle.std.proofs.Common.{◌≡◌, ◌<◌, ◌≤◌, ◌^◌, length, w64, refl, subst, arith}
use Rattle.std.proofs.lemmas.Int.{to_z-of_z}
use Rattle.seccompiler.specs.Layout.{rule_length}
use Rattle.seccompiler.specs.Pieces.{IsRuleCode}
use Rattle.seccompiler_c.specs.RuleCode.{compiled, refused, without_room}
use Rattle.seccompiler_c.proofs.Programs.{holds}
use Rattle.seccompiler_c.proofs.seccompiler_compile_rule.Goals as goal

-- The code is longer than the array.
pub returns-then-count-code : goal.returns-then-count-code
returns-then-count-code c =
    let rule = c.in-Ok.ensures.rule in
    let long : length c.args.code.now < rule_length c.in-Ok.rule = omega (arith, c.code_len-count.ensures.length, c.if-count-code.true) in
    rw (to_z-of_z w64 c.number.result (record { sfits = c.number.type_inv })) (record {
      answers = without_room rule.0 (subst (λ q. length c.args.code.now < rule_length q) rule.1 long) c.number.ensures refl;
    })

-- The code is in the front of the array.
pub returns-else-count-code : goal.returns-else-count-code
returns-else-count-code c =
    let old = c.args.code.now in
    let code = c.write.new.part in
    let n = c.code_len-count.result in
    let rule = c.in-Ok.ensures.rule in
    let is = c.write.ensures.code in
    let small : n < 2 ^ 63 = omega (arith, c.if-count-code.false, c.well_formed) in
    let count : n ≡ length code = omega (arith, small, c.code_len-count.ensures.length, is.long) in
    let room : length code ≤ length old = omega (arith, count, c.if-count-code.false) in
    record {
      answers =
          compiled rule.0 code (subst (λ q. IsRuleCode q code) rule.1 is) (holds old code code n count refl room small code refl);
    }

pub returns-in-Err : goal.returns-in-Err
returns-in-Err c = rw (to_z-of_z w64 c.number-in-Err.result (record { sfits = c.number-in-Err.type_inv })) (record {
  answers = refused c.in-Err.fault c.in-Err.ensures.refused c.number-in-Err.ensures refl;
})
