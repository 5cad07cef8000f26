use Rattle.std.proofs.Common.{map, string_bytes, sym, ◌∙◌}
use Rattle.std.proofs.lemmas.Bool.{true≢false}
use Rattle.seccomp_profiles.proofs.compiled.Programs.{no_names, profile_program}
use Rattle.seccomp_profiles.proofs.compiled.compile_profile.Goals as goal
use Rattle.seccomp_profiles.proofs.compiled.compile_profile.Goals.{else-strict-via-then-strict+else-not-is_empty}
use Rattle.seccomp_profiles.proofs.compiled.compile_profile.Goals.{else-strict-via-else-strict}

pub returns-in-Ok-clause-compiled : goal.returns-in-Ok-clause-compiled
returns-in-Ok-clause-compiled c = record {
  read = record {
    profile = c.in_ok-profile.ensures.read;
    names = c.in_ok-left_out.ensures;
    none = λ strict. elim c.else-strict.branch [
      | else-strict-via-then-strict+else-not-is_empty w ↦
          let names = c.in_ok-left_out.left_out in
          no_names names.items names.len w.is_empty.result names.ok.0 w.is_empty.ensures w.if-not-is_empty.false
      | else-strict-via-else-strict w ↦ absurd (true≢false (sym strict ∙ w.if-strict.false))
    ];
  };
  program = profile_program c.args.arch c.args.container.now c.in_ok-profile.profile c.in_ok-decisions.decisions
      c.in-Ok.program.items c.in_ok-decisions.ensures.decide c.in-Ok.ensures.program;
  own = record {
    decisions = c.in_ok-decisions.decisions;
    own = c.in_ok-decisions.ensures.own;
    made = c.in-Ok.ensures.program;
  };
}

pub returns-in-Err-TooLarge-clause-fault : goal.returns-in-Err-TooLarge-clause-fault
returns-in-Err-TooLarge-clause-fault c = record {
  profile = c.in_ok-profile.profile;
  left_out = map string_bytes c.in_ok-left_out.left_out.items;
  read = record {
    profile = c.in_ok-profile.ensures.read;
    names = c.in_ok-left_out.ensures;
    none = λ strict. elim c.else-strict.branch [
      | else-strict-via-then-strict+else-not-is_empty w ↦
          let names = c.in_ok-left_out.left_out in
          no_names names.items names.len w.is_empty.result names.ok.0 w.is_empty.ensures w.if-not-is_empty.false
      | else-strict-via-else-strict w ↦ absurd (true≢false (sym strict ∙ w.if-strict.false))
    ];
  };
  large = record {
    decisions = c.in_ok-decisions.decisions;
    own = c.in_ok-decisions.ensures.own;
    large = c.in-Err-TooLarge.ensures.large c.in-Err-TooLarge.field-0-is;
  };
}
