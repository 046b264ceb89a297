-- `fitting` meets its contract. Assumes nothing.
use Rattle.controller.proofs.Turned.{fits_all, fits_some}
use Rattle.controller.proofs.nights.fitting.Goals as goal

pub returns-then-k-n : goal.returns-then-k-n
returns-then-k-n c = fits_all _ _ c.if-k-n.true

pub returns : goal.returns
returns c = fits_some _ _ c.if-k-n.false
