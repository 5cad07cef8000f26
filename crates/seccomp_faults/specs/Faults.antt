-- What a fault is: where it is, and what is wrong there.
use Rattle.std.specs.Prelude.{◌≡◌, ◌≢◌, ◌⊎◌, ℕ, List, [], ◌∷◌, Contains, Option, Some, None, IfSome, IsTrue, false, length, codes}
use Rattle.std.specs.Prelude.{string_bytes, ⊤}
use Rattle.serde_json.specs.Data.{Data, null, string}
use Rattle.serde_json.specs.Find.{get, at}
use Rattle.seccompiler.specs.declared.backend.SeccompAction.{SeccompAction}
use Rattle.seccompiler.specs.declared.backend.TargetArch.{TargetArch}
use Rattle.seccompiler.specs.declared.bpf.sock_filter.{sock_filter}
use Rattle.seccompiler.specs.Compiled.{IsTooLarge}
use Rattle.seccompiler.specs.JsonAnswers.{HasPolicy}
use Rattle.seccompiler.specs.JsonShape.{IsObject, Has, Lacks, IsOneAction}
use Rattle.seccompiler.specs.Policy.{Filter}
use Rattle.seccomp_tree.specs.Layouts.{IsTreeCompiled, IsTreeTooLarge}
use Rattle.seccomp_text.specs.declared.steps.Step.{Step}
use Rattle.seccomp_text.specs.declared.steps.Step.TheVariants as step
use Rattle.seccomp_faults.specs.declared.fault.Cause.{Cause}
use Rattle.seccomp_faults.specs.declared.fault.Cause.TheVariants as cause
use Rattle.seccomp_faults.specs.declared.fault.Fault.{Fault}
use Rattle.seccomp_faults.specs.declared.fault.Problem.{Problem}
use Rattle.seccomp_faults.specs.declared.fault.Problem.TheVariants as problem
use Rattle.seccomp_faults.specs.declared.part.Part.{Part}
use Rattle.seccomp_faults.specs.declared.part.Part.TheVariants as part
use Rattle.serde_json.specs.View.{view}
use Rattle.seccomp_faults.specs.declared.table.Form.{Form}
use Rattle.seccomp_faults.specs.declared.table.Form.TheVariants as form
use Rattle.seccomp_faults.specs.Forms.{IsOf, Misses}
use Rattle.seccomp_faults.specs.Table.{must, one_of, actions_differ, none_beside, not_both, rows_of, is_closed, has_key, IsInside}

-- The value that a step leads to, if there is one.
abbrev pub step_to : Step → Data → Option Data
step_to (step.Key key) d = get (string_bytes key) d
step_to (step.Item i) d = at i d

-- Steps lead from one value, of a form, to another, and by the tables to its form.
abbrev pub Leads : List Step → (outer : Form) (d : Data) → (inner : Form) (value : Data) → Type 0
Leads [] outer d inner value = (inner ≡ outer) × (value ≡ d)
Leads (first ∷ path) outer d inner value =
    (next : Form) × (there : Data) × IsInside outer first next × (step_to first d ≡ Some there) × Leads path next there inner value

-- The filter's two actions are the same.
abbrev pub HasSameActions : Data → Type 0
HasSameActions d = (a : SeccompAction) × IsOneAction (get (codes "mismatch_action") d) (get (codes "default_action") d) a
    × IsOneAction (get (codes "match_action") d) (get (codes "filter_action") d) a

-- The program of the filter has too many instructions in the linear layout; in the tree layout so many, if they fit.
abbrev pub FitsAsTree : Filter → Option ℕ → Type 0
FitsAsTree f (Some n) = (p : List sock_filter) × IsTreeCompiled f p × (length p ≡ n)
FitsAsTree f None = IsTreeTooLarge f

abbrev pub IsTooLong : TargetArch → Data → ℕ → Option ℕ → Type 0
IsTooLong target d n tree = (policy : Filter) × HasPolicy target d policy × IsTooLarge policy n × FitsAsTree policy tree

-- The object has this key.
abbrev pub HasKey : Data → List ℕ → Type 0
HasKey d key = (value : Data) × Has d key value

-- The form's table says that of the two keys only one is to be used.
abbrev pub AreEither : Form → List ℕ → List ℕ → Type 0
AreEither f key other = ((inner : Form) × Contains (rows_of f) (one_of key other inner)) ⊎ Contains (rows_of f) (not_both key other)

-- What stands there is a text that names no action with a number.
abbrev pub NamesNone : Option Data → Type 0
NamesNone (Some (string text)) = (text ≢ codes "SCMP_ACT_ERRNO") × (text ≢ codes "SCMP_ACT_TRACE")
NamesNone other = ⊥

-- Something stands there that isn't null and no empty text.
abbrev pub IsGiven : Option Data → Type 0
IsGiven None = ⊥
IsGiven (Some null) = ⊥
IsGiven (Some (string [])) = ⊥
IsGiven (Some d) = ⊤

-- This is wrong with a value that has to be of the form. A suggested name is a call's.
abbrev pub IsBroken : TargetArch → Form → Data → Problem → Type 0
IsBroken target f d (problem.Stands text missed) = Misses target f missed d
IsBroken target f d (problem.UnknownCall text own near) = (own ≡ target) × Misses target f form.Call d
    × IfSome near (λ name. IsOf target form.Call (string name.now))
IsBroken target f d (problem.Strange key) = IsTrue (is_closed f) × HasKey d (string_bytes key) × (has_key f (string_bytes key) ≡ false)
IsBroken target f d (problem.Missing key) = (inner : Form) × Contains (rows_of f) (must key.now inner) × IsObject d × Lacks d key.now
IsBroken target f d (problem.Neither key other) = (inner : Form) × Contains (rows_of f) (one_of key.now other.now inner) × IsObject d
    × Lacks d key.now × Lacks d other.now
IsBroken target f d (problem.Both key other) = AreEither f key.now other.now × HasKey d key.now × HasKey d other.now
IsBroken target f d (problem.Beside key) = (action : List ℕ) × Contains (rows_of f) (none_beside action key.now)
    × NamesNone (get action d) × IsGiven (get key.now d)
IsBroken target f d problem.SameActions = Contains (rows_of f) actions_differ × HasSameActions d
IsBroken target f d (problem.TooLong n tree own) = (own ≡ target) × (f ≡ form.Filter) × IsTooLong target d n tree

-- The fault's path leads from a value that has to be of the outer form to one that has to be of the fault's, and in which it is.
pub record IsFault (target : TargetArch) (outer : Form) (d : Data) (fault : Fault) : Type 0 where
  pub value : Data
  pub leads : Leads fault.path.items outer d fault.form value
  pub broken : IsBroken target fault.form value fault.problem

-- The kind of fault that a problem is.
abbrev pub cause_of : Problem → Cause
cause_of (problem.Stands text form.Policy) = cause.Top
cause_of (problem.Stands text form.Argument) = cause.Argument
cause_of (problem.Stands text form.SomeConditions) = cause.Empty
cause_of (problem.UnknownCall text own near) = cause.Call
cause_of problem.SameActions = cause.Actions
cause_of (problem.TooLong n tree own) = cause.Length
cause_of other = cause.Shape

-- Between layers: what is told of a value that has to be of the form, or is to be looked at in it.
abbrev pub IsPart : TargetArch → Form → Data → Part → Type 0
IsPart target f d (part.Broken problem) = IsBroken target f d problem
IsPart target f d (part.Inner step inner value) = IsInside f step inner × (step_to step d ≡ Some (view value.now))
