use Rattle.std.proofs.Common.{rules, ◌≡◌, ◌≢◌, List, [], Bool, false, nat_eq, length, refl, sym, ap, ◌∙◌}
use Rattle.std.proofs.lemmas.Bool.{true≢false}
use Rattle.seccompiler.specs.declared.bpf.sock_filter.{sock_filter}
use Rattle.seccompiler.specs.Install.{no_new_privs_failed, filter_asked_for, call_failed, thread_failed, installed}
use Rattle.seccompiler.proofs.install.apply_filter_with_flags.Goals as goal

some : (prog : List sock_filter) {empty : Bool} → empty ≡ nat_eq (length prog) 0 → empty ≡ false → prog ≢ []
some prog is filled = λ none. true≢false (sym (is ∙ ap (λ p. nat_eq (length p) 0) none) ∙ filled)

pub returns-then-code-ne0 : goal.returns-then-code-ne0
returns-then-code-ne0 g c = record {
  applied = no_new_privs_failed (some c.args.prog.now c.is_empty.ensures c.if-is_empty.false) _ _
      c.set_no_new_privs-code.ensures (search rules) (search rules);
}

pub returns-then-code-lt0 : goal.returns-then-code-lt0
returns-then-code-lt0 g c = record {
  applied = filter_asked_for (some c.args.prog.now c.is_empty.ensures c.if-is_empty.false) c.set_no_new_privs-code.result.1
      c.set_no_new_privs-code.new.self (search rules) _ _ c.set_mode_filter-code.ensures (call_failed (search rules) (search rules));
}

pub returns-then-code-gt0 : goal.returns-then-code-gt0
returns-then-code-gt0 g c = record {
  applied = filter_asked_for (some c.args.prog.now c.is_empty.ensures c.if-is_empty.false) c.set_no_new_privs-code.result.1
      c.set_no_new_privs-code.new.self (search rules) _ _ c.set_mode_filter-code.ensures (thread_failed (search rules) (search rules));
}

pub returns-else-code-gt0 : goal.returns-else-code-gt0
returns-else-code-gt0 g c = record {
  applied = filter_asked_for (some c.args.prog.now c.is_empty.ensures c.if-is_empty.false) c.set_no_new_privs-code.result.1
      c.set_no_new_privs-code.new.self (search rules) _ _ c.set_mode_filter-code.ensures (installed (search rules) refl);
}
