-- `laid_owners` meets its contract. Assumes nothing.
use mathlib.Core.Path.{refl}
use Rattle.controller.proofs.Performed.{owners_are}
use Rattle.controller.proofs.perform.laid_owners.Goals as goal

pub returns-in-Nothing : goal.returns-in-Nothing
returns-in-Nothing c = owners_are _ _ _ _ _ c.in-Nothing.is refl

pub returns-in-Values : goal.returns-in-Values
returns-in-Values c = owners_are _ _ _ _ _ c.in-Values.is refl

pub returns-in-Kept : goal.returns-in-Kept
returns-in-Kept c = owners_are _ _ _ _ _ c.in-Kept.is refl
