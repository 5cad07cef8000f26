use Rattle.std.proofs.Common.{leb-true, le-leb}
use Rattle.std.specs.Cmp.{unsigned_Decides}
use Rattle.std.proofs.lemmas.Bool.Decides.{Decides-ltb, Decides-not}
use Rattle.seccompiler.proofs.condition.compares.Goals as goal

pub returns-in-Eq : goal.returns-in-Eq
returns-in-Eq c = rw c.in-Eq.is (unsigned_Decides _ _)

pub returns-in-Ne : goal.returns-in-Ne
returns-in-Ne c = rw c.in-Ne.is (Decides-not _ (unsigned_Decides _ _))

pub returns-in-Ge : goal.returns-in-Ge
returns-in-Ge c = rw c.in-Ge.is (leb-true _ _, le-leb _ _)

pub returns-in-Gt : goal.returns-in-Gt
returns-in-Gt c = rw c.in-Gt.is (Decides-ltb _ _)

pub returns-in-Le : goal.returns-in-Le
returns-in-Le c = rw c.in-Le.is (leb-true _ _, le-leb _ _)

pub returns-in-Lt : goal.returns-in-Lt
returns-in-Lt c = rw c.in-Lt.is (Decides-ltb _ _)

pub returns-in-MaskedEq : goal.returns-in-MaskedEq
returns-in-MaskedEq c = rw (c.in-MaskedEq.is, ← c.part_of-mask.ensures) (unsigned_Decides _ _)
