use Rattle.std.proofs.Common.{w64, rules, sym, ◌∙◌}
use mir.Val.{SFits}
use Rattle.std.proofs.lemmas.Int.{to_z-of_z}
use Rattle.seccompiler_c.specs.Codes.{of_code}
use Rattle.seccompiler_c.proofs.seccompiler_strerror.Goals as goal

pub returns-in-Some : goal.returns-in-Some
returns-in-Some c =
    let wrote = c.write_text in
    let fits : SFits w64 c.args.code = search rules in
    let own = sym (to_z-of_z w64 c.args.code fits) ∙ c.in-Some.ensures.found in
    rw (to_z-of_z w64 wrote.result (record { sfits = wrote.type_inv })) (record {
      answers = record {
        said = c.text.result.now;
        sentence = of_code c.in-Some.code own c.text.ensures;
        holds = wrote.ensures.holds;
        told = wrote.ensures.told;
      };
    })
