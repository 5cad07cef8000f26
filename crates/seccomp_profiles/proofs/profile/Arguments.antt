-- For `read_profile`: the conditions of a profile are on arguments that a call has.
use Rattle.std.proofs.Common.{◌≤◌, List, [], ◌∷◌, All, Option}
use Rattle.std.proofs.lemmas.List.Elements.{All-nil, All-cons}
use Rattle.serde_json.specs.Data.{Data, Items, item, no_items}
use Rattle.seccompiler.specs.JsonShape.{OneByOne}
use Rattle.seccomp_profiles.specs.declared.types.Argument.{Argument}
use Rattle.seccomp_profiles.specs.Types.{AllOnArguments}
use Rattle.seccomp_profiles.specs.ProfileShape.{IsEntry}
use Rattle.seccomp_profiles.specs.Types.{AreOnArguments}
use Rattle.seccomp_profiles.specs.Shape.{IsArgument, IsListed}
use Rattle.seccomp_profiles.specs.Types.{Entry}

-- What each value says of what it is holds of all that the items are.
each_one : {X : Type 0} (P : Data → X → Type 0) (Q : X → Type 0) → ((d : Data) (x : X) → P d x → Q x) → (items : Items) (xs : List X)
    → OneByOne P items xs → All Q xs
each_one P Q says no_items [] are = All-nil Q
each_one P Q says no_items (x ∷ xs) are = absurd are
each_one P Q says (item d items) [] are = absurd are
each_one P Q says (item d items) (x ∷ xs) are = All-cons Q x xs (says d x are.0) (each_one P Q says items xs are.1)

pub listed_arguments : (o : Option Data) (entries : List Entry) → IsListed IsEntry o entries → AllOnArguments entries
listed_arguments o entries listed = each_one IsEntry (λ (e : Entry). AreOnArguments e.args)
    (λ d e is. each_one IsArgument (λ (a : Argument). a.index ≤ 5) (λ v a is. is.index.2.small) is.args.items e.args is.args.own)
    listed.items entries listed.own
