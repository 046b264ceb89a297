-- `state_numbers` meets its contract. Assumes nothing.
use Rattle.machine.specs.Reads.{state_numbers}
use Rattle.image.specs.View.{view}
use Rattle.controller.proofs.Decided.{last_is}
use Rattle.controller.proofs.Shows.{flag_from}
use Rattle.controller.proofs.reads.state_numbers.Goals as goal

pub returns : goal.returns
unfolding state_numbers view
returns c = simp (c.from.ensures, c.from-2.ensures, c.from-3.ensures, c.from-4.ensures, c.from-5.ensures, c.from-6.ensures, c.from-7.ensures, c.from-8.ensures, c.from-9.ensures, c.from-10.ensures, c.from-11.ensures, c.from-12.ensures, c.last_number.ensures, c.load_change.ensures, c.last_fold.ensures, c.get.ensures, c.get-2.ensures, c.get-3.ensures, c.get-4.ensures, c.get-5.ensures, c.get-6.ensures, c.get-7.ensures, c.get-8.ensures, c.get-9.ensures, c.get-10.ensures, c.get-11.ensures, c.code.ensures, c.load_head-committed.ensures, c.load_head-applied.ensures, c.load_configuration-configuration.ensures, c.load_mastership-mastership.ensures, c.load_target-target.ensures, flag_from, last_is _ c.requires)
