-- `entry_numbers` meets its contract. Assumes nothing.
use Rattle.machine.specs.Reads.{entry_numbers}
use Rattle.controller.proofs.reads.entry_numbers.Goals as goal

pub returns : goal.returns
unfolding entry_numbers
returns c = simp (c.from.ensures, c.from-2.ensures, c.from-3.ensures, c.from-4.ensures, c.from-5.ensures, c.from-6.ensures, c.from-7.ensures, c.from-8.ensures, c.from-9.ensures, c.from-10.ensures, c.from-11.ensures, c.from-12.ensures, c.from-13.ensures, c.from-14.ensures, c.from-15.ensures, c.from-16.ensures, c.from-17.ensures, c.from-18.ensures, c.from-19.ensures, c.code.ensures, c.code-2.ensures, c.code-3.ensures, c.code-4.ensures, c.get.ensures, c.get-2.ensures, c.get-3.ensures)
