use Rattle.std.proofs.Common.{◌≡◌, ◌∙◌, Some, ap, sym}
use Rattle.std.specs.Prelude.{slice_get}
use Rattle.std.proofs.lemmas.Option.{slice_get-get_or}
use Rattle.seccomp_entries.specs.Entries.{Entry}
use Rattle.seccomp_warnings.proofs.profile.doubts.settler_of.Goals as goal

pub returns-then-has_no_args : goal.returns-then-has_no_args
returns-then-has_no_args c =
    let es = c.args.entries.now in
    let l = c.loop-entry in
    let e : Entry = c.entry-item.result in
    let there : slice_get es l.entry-index ≡ Some e =
    slice_get-get_or es l.entry-index e c.loop-entry-test.true ∙ ap (λ (x : Entry). Some x) (sym c.entry-item.is) in
    record {
      index = l.entry-index;
      entry = e;
      there = there;
      place_is = sym (ap (λ (x : Entry). x.place) c.entry.view_is);
      own = sym (ap (λ (x : Entry). x.number) c.entry.view_is) ∙ c.if-entry-number.true;
      always = c.has_no_args.ensures.0 c.if-has_no_args.true;
      before = l.invariant;
    }
