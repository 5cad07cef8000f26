use Rattle.std.proofs.Common.{◌≡◌, ◌∷◌, [], ◌++◌, ap, map, string_bytes, sym, subst, true, false, ◌∙◌}
use Rattle.std.specs.Prelude.{is_some}
use Rattle.std.proofs.lemmas.List.{map_push}
use Rattle.seccompiler.specs.Architecture.{table_of}
use Rattle.seccompiler.specs.SyscallTable.{number_of}
use Rattle.seccomp_profiles.specs.LeftOut.{AreUnknown, none, known, unknown}
use Rattle.seccomp_profiles.proofs.Quantified.{more_texts}
use Rattle.seccomp_profiles.proofs.unknown.unknown_of.Goals as goal

pub loop-name-init : goal.loop-name-init
loop-name-init c = subst (λ all. AreUnknown c.args.arch [] (map string_bytes all)) (sym c.new-unknown.ensures.items) none

pub loop-name-preserved-then-is_some : goal.loop-name-preserved-then-is_some
loop-name-preserved-then-is_some c =
    let there : is_some (number_of (table_of c.args.arch) (string_bytes c.name-item.result)) ≡ true = cc in
    subst (λ texts. AreUnknown c.args.arch texts (map string_bytes c.loop-name.unknown.items))
    (sym (more_texts c.args.names.now c.loop-name.name-index _ c.loop-name-test.true c.name-item.is))
    (known _ c.loop-name.invariant there)

pub loop-name-preserved : goal.loop-name-preserved
loop-name-preserved c =
    let names = c.loop-name.unknown.items in
    let text = c.in_ok-from_str.field-0 in
    let missing : is_some (number_of (table_of c.args.arch) (string_bytes c.name-item.result)) ≡ false = cc in
    let longer : map string_bytes c.push.new.self.items ≡ map string_bytes names ++ string_bytes c.name-item.result ∷ [] =
    ap (map string_bytes) c.in_ok-push.ensures.items ∙ map_push string_bytes names text
    ∙ ap (λ t. map string_bytes names ++ t ∷ []) (c.in_ok-from_str.ensures.ok ∙ c.as_str-in-loop-name.ensures.value) in
    subst (λ texts. AreUnknown c.args.arch texts (map string_bytes c.push.new.self.items))
    (sym (more_texts c.args.names.now c.loop-name.name-index _ c.loop-name-test.true c.name-item.is))
    (subst (AreUnknown c.args.arch _) (sym longer) (unknown _ c.loop-name.invariant missing))
