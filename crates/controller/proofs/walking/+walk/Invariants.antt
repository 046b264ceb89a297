-- `walk` meets its contract: the measure is the number, which falls at each call. Assumes nothing.
use Rattle.controller.proofs.walking.+walk.Given as goal

abbrev pub decreases-walk : goal.decreases-walk
decreases-walk l = l.v
