-- `night` is a night with the table of its line. Assumes nothing.
use mathlib.Core.Path.{sym}
use lib.Seq.{length-take-le}
use borrow.Author.Rules.{rules}
use Rattle.stepper.proofs.night.Goals as goal

pub slice_bounds-night-end : goal.slice_bounds-night-end
slice_bounds-night-end c = sym (length-take-le 256 c.fill.new.table (search rules))
