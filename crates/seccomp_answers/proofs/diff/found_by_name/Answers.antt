use Rattle.std.proofs.Common.{◌≡◌, ◌∷◌, [], ◌++◌, All, Bor, Contains, Global, Option, Some, None, String, ap, inl, inr, map, rules}
use Rattle.std.proofs.Common.{subst, sym, ◌∙◌, string_bytes, string_cmp}
use Rattle.std.specs.List.Sorted.{IsStrictlySortedBy}
use Rattle.std.specs.Map.{keys_of}
use Rattle.std.specs.BTreeMap.{get_by_text}
use Rattle.std.specs.Prelude.{option_map}
use Rattle.std.proofs.lemmas.List.Elements.{All-nil}
use Rattle.seccompiler.specs.Policy.{Filter}
use Rattle.seccomp_answers.specs.Diff.{IsFoundUnder, name_bytes}
use Rattle.seccomp_answers.specs.declared.diff.Found.TheVariants.{OnlyNew}
use Rattle.seccomp_answers.specs.declared.diff.NamedFound.{NamedFound}
use Rattle.seccomp_answers.proofs.diff.Names.{IsAmong, all_among, among_more, found_among, found_more, next_found, passed, under_name}
use Rattle.seccomp_answers.proofs.diff.Causes.{either_more, of_filter, of_found}
use Rattle.std.proofs.lemmas.Result.{err_from_is_err_and}
use Rattle.seccomp_answers.proofs.diff.found_by_name.Goals as goal
use Rattle.seccomp_answers.specs.Causes.{IsUnfittingFilter, IsUnfittingIn, IsUnfittingUnder}

pub loop-name-init : goal.loop-name-init
loop-name-init g c =
    let Under = IsFoundUnder c.args.terms.target c.args.terms.relation (get_by_text c.args.old.now) (get_by_text c.args.new.now) in
    record {
      done = [];
      whole = search rules;
      each = subst (All Under) (sym c.new-all.ensures.items) (All-nil Under);
      among = All-nil (IsAmong c.new-all.result.items);
    }

pub loop-name-preserved : goal.loop-name-preserved
loop-name-preserved g c =
    let l = c.loop-name in
    let old = get_by_text c.args.old.now in
    let new = get_by_text c.args.new.now in
    let entries = c.args.old.now.entries in
    let e : String Global × Filter = (c.in-Some.name.now, c.in-Some.filter.now) in
    let one : NamedFound = record { name = c.in_ok-copy.copy; found = c.in_ok-found.found } in
    let named : name_bytes one ≡ string_bytes e.0 = c.in_ok-copy.ensures.cases in
    let order : IsStrictlySortedBy string_cmp (keys_of entries) = search rules in
    let there = next_found entries l.invariant.done l.name-iterator c.next.new.self e order l.invariant.whole c.in-Some.ensures.steps in
    let found = under_name c.args.terms.target c.args.terms.relation old new one _ _ (sym there ∙ ap old (sym named))
    (c.get.ensures.value ∙ ap new (c.as_str.ensures.value ∙ sym named)) c.in_ok-found.ensures.found in
    found_more c.args.terms.target c.args.terms.relation old new l.all.items c.push.new.self.items entries l.name-iterator
    c.next.new.self one e l.invariant c.in-Some.ensures.steps found named c.in_ok-push.ensures.items

pub loop-name-2-init : goal.loop-name-2-init
loop-name-2-init g c =
    let l = c.loop-name in
    record {
      old = all_among c.args.terms.target c.args.terms.relation (get_by_text c.args.old.now) (get_by_text c.args.new.now) l.all.items
          c.args.old.now.entries l.name-iterator l.invariant c.in-None.ensures.steps.0;
      so_far = record { done = []; whole = search rules; each = l.invariant.each; among = All-nil (IsAmong l.all.items) };
    }

pub loop-name-2-preserved-in-Some-get : goal.loop-name-2-preserved-in-Some-get
loop-name-2-preserved-in-Some-get g c =
    let l = c.loop-name-2 in
    let text = c.as_str-in-loop-name-2.result.now in
    let there : get_by_text c.args.old.now text ≡ Some c.in-Some-get.field-0.now =
    sym c.get-in-loop-name-2.ensures.value ∙ ap (λ (o : Option (Bor Filter)). option_map (λ f. f.now) o) c.in-Some-get.is in
    record {
      old = l.invariant.old;
      so_far = passed c.args.terms.target c.args.terms.relation (get_by_text c.args.old.now) (get_by_text c.args.new.now) l.all.items
          c.args.new.now.entries l.name-iterator c.next-in-loop-name-2.new.self (c.in-Some-2.name.now, c.in-Some-2.field-0-1.now)
          l.invariant.so_far c.in-Some-2.ensures.steps (subst (Contains (map name_bytes l.all.items)) c.as_str-in-loop-name-2.ensures.value
          (found_among l.all.items c.args.old.now.entries l.invariant.old text c.in-Some-get.field-0.now there));
    }

pub loop-name-2-preserved : goal.loop-name-2-preserved
loop-name-2-preserved g c =
    let l = c.loop-name-2 in
    let old = get_by_text c.args.old.now in
    let new = get_by_text c.args.new.now in
    let entries = c.args.new.now.entries in
    let e : String Global × Filter = (c.in-Some-2.name.now, c.in-Some-2.field-0-1.now) in
    let one : NamedFound = record { name = c.in_ok-clone-in-None-get.field-0; found = OnlyNew } in
    let named : name_bytes one ≡ string_bytes e.0 = c.in_ok-clone-in-None-get.ensures.cases in
    let order : IsStrictlySortedBy string_cmp (keys_of entries) = search rules in
    let steps = c.in-Some-2.ensures.steps in
    let there = next_found entries l.invariant.so_far.done l.name-iterator c.next-in-loop-name-2.new.self e order
    l.invariant.so_far.whole steps in
    let lacks : None ≡ old (name_bytes one) =
    ap (λ (o : Option (Bor Filter)). option_map (λ f. f.now) o) (sym c.in-None-get.is) ∙ c.get-in-loop-name-2.ensures.value
    ∙ ap old (c.as_str-in-loop-name-2.ensures.value ∙ sym named) in
    let found = under_name c.args.terms.target c.args.terms.relation old new one _ _ lacks (sym there ∙ ap new (sym named)) tt in
    let added = c.in_ok-push-in-None-get.ensures.items in
    record {
      old = subst (λ all. All (IsAmong all) c.args.old.now.entries) {x = l.all.items ++ one ∷ []} (sym added)
          (among_more l.all.items one c.args.old.now.entries l.invariant.old);
      so_far = found_more c.args.terms.target c.args.terms.relation old new l.all.items c.push-in-None-get.new.self.items entries
          l.name-iterator c.next-in-loop-name-2.new.self one e l.invariant.so_far steps found named added;
    }

pub returns-clause-found : goal.returns-clause-found
returns-clause-found g c =
    let l = c.loop-name-2 in
    let all = l.all.items in
    let among = all_among c.args.terms.target c.args.terms.relation (get_by_text c.args.old.now) (get_by_text c.args.new.now) all
    c.args.new.now.entries l.name-iterator l.invariant.so_far c.in-None-2.ensures.steps.0 in
    record {
      each = l.invariant.so_far.each;
      complete = λ name f rule. elim rule [
        | inl there ↦ found_among all c.args.old.now.entries l.invariant.old name f there
        | inr there ↦ found_among all c.args.new.now.entries among name f there
      ];
    }

pub returns-in_err-found-clause-cause : goal.returns-in_err-found-clause-cause
returns-in_err-found-clause-cause g c =
    let l = c.loop-name in
    let old = get_by_text c.args.old.now in
    let new = get_by_text c.args.new.now in
    let entries = c.args.old.now.entries in
    let f = c.in-Some.filter.now in
    let e : String Global × Filter = (c.in-Some.name.now, f) in
    let order : IsStrictlySortedBy string_cmp (keys_of entries) = search rules in
    let there = next_found entries l.invariant.done l.name-iterator c.next.new.self e order l.invariant.whole c.in-Some.ensures.steps in
    let found = option_map (λ (g : Bor Filter). g.now) c.get.result in
    let error = err_from_is_err_and c.from_residual-in_err-found.result c.from_residual-in_err-found.ensures.1 in
    rw (error.1, error.2) (either_more (IsUnfittingFilter f) (IsUnfittingUnder found) (IsUnfittingIn old)
    (IsUnfittingIn new) (of_filter old (string_bytes e.0) f there) (of_found new c.as_str.result.now found c.get.ensures.value)
    c.in_err-found.field-0.0 c.in_err-found.ensures.cause)
