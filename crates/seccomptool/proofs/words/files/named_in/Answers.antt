use Rattle.seccomptool.proofs.Common.{◌≡◌, List, None, Option, Some, false, refl, rules, subst, true, ℕ}
use Rattle.seccomptool.specs.Files.{IsPathAndName, alone, name_given, whole_path}
use Rattle.seccomptool.proofs.words.Parts.{found_there, no_colon, parted}
use Rattle.seccomptool.proofs.words.files.named_in.Goals as goal

pub returns-in_default : goal.returns-in_default
returns-in_default g c = rw c.whole.ensures (alone (no_colon c.args.text.now c.in_default.ensures.cases) refl refl)

pub returns-then-is_there : goal.returns-then-is_there
returns-then-is_there g c =
    rw c.whole-then-is_there.ensures (whole_path
    (found_there (g.O.Outside.there c.args.out.now) c.args.text.now c.is_there.result true c.is_there.ensures c.if-is_there.true) refl refl)

pub returns-then-is_empty : goal.returns-then-is_empty
returns-then-is_empty g c =
    let paths = g.O.Outside.there c.args.out.now in
    let none : name_given c.in-Some.name.now ≡ None = search rules in
    rw c.whole-then-is_empty.ensures (subst (λ (name : Option (List ℕ)). IsPathAndName paths c.args.text.now c.in-Some.path.now name) none
    (parted paths c.args.text.now c.in-Some.path.now c.in-Some.name.now
    (found_there paths c.args.text.now c.is_there.result false c.is_there.ensures c.if-is_there.false) c.in-Some.ensures.cases))

pub returns : goal.returns
returns g c =
    let paths = g.O.Outside.there c.args.out.now in
    let some : name_given c.in-Some.name.now ≡ Some c.in-Some.name.now = search rules in
    subst (λ (name : Option (List ℕ)). IsPathAndName paths c.args.text.now c.in-Some.path.now name) some
    (parted paths c.args.text.now c.in-Some.path.now c.in-Some.name.now
    (found_there paths c.args.text.now c.is_there.result false c.is_there.ensures c.if-is_there.false) c.in-Some.ensures.cases)
