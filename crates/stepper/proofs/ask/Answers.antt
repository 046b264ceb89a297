-- `ask` makes the call that the line asks for, asks why or who set a path, makes a night, imports or begins anew. Assumes nothing.
use mathlib.Core.Path.{refl, ap}
use Rattle.stepper.specs.declared.Answer.TheVariants.{Replied, Explained, Owned}
use Rattle.stepper.proofs.Answered.{asked, replied}
use Rattle.stepper.proofs.ask.Goals as goal

pub returns-in-Unreadable : goal.returns-in-Unreadable
returns-in-Unreadable c = asked c.args.first c.args.line _ _ _ _ _ c.in-Unreadable.is (ap Replied c.of.ensures, refl)

pub returns-in-Append : goal.returns-in-Append
returns-in-Append c = asked c.args.first c.args.line _ _ _ _ _
    c.in-Append.is (replied _ _ _ _ c.append.ensures)

pub returns-in-Rollback : goal.returns-in-Rollback
returns-in-Rollback c = asked c.args.first c.args.line _ _ _ _ _
    c.in-Rollback.is (replied _ _ _ _ c.rollback.ensures)

pub returns-in-Start : goal.returns-in-Start
returns-in-Start c = asked c.args.first c.args.line _ _ _ _ _
    c.in-Start.is (replied _ _ _ _ c.start.ensures)

pub returns-in-Stop : goal.returns-in-Stop
returns-in-Stop c = asked c.args.first c.args.line _ _ _ _ _
    c.in-Stop.is (replied _ _ _ _ c.stop.ensures)

pub returns-in-Connect : goal.returns-in-Connect
returns-in-Connect c = asked c.args.first c.args.line _ _ _ _ _
    c.in-Connect.is (replied _ _ _ _ c.connect.ensures)

pub returns-in-Disconnect : goal.returns-in-Disconnect
returns-in-Disconnect c = asked c.args.first c.args.line _ _ _ _ _
    c.in-Disconnect.is (replied _ _ _ _ c.disconnect.ensures)

pub returns-in-Master : goal.returns-in-Master
returns-in-Master c = asked c.args.first c.args.line _ _ _ _ _
    c.in-Master.is (replied _ _ _ _ c.master.ensures)

pub returns-in-Sync : goal.returns-in-Sync
returns-in-Sync c = asked c.args.first c.args.line _ _ _ _ _
    c.in-Sync.is (replied _ _ _ _ c.sync.ensures)

pub returns-in-Work : goal.returns-in-Work
returns-in-Work c = asked c.args.first c.args.line _ _ _ _ _
    c.in-Work.is (replied _ _ _ _ c.work.ensures)

pub returns-in-Fold : goal.returns-in-Fold
returns-in-Fold c = asked c.args.first c.args.line _ _ _ _ _
    c.in-Fold.is (replied _ _ _ _ c.fold.ensures)

pub returns-in-Why : goal.returns-in-Why
returns-in-Why c = asked c.args.first c.args.line _ _ _ _ _
    c.in-Why.is (ap Explained c.why.ensures, refl)

pub returns-in-Night : goal.returns-in-Night
returns-in-Night c = asked c.args.first c.args.line _ _ _ _ _ c.in-Night.is c.night.ensures

pub returns-in-Import : goal.returns-in-Import
returns-in-Import c = asked c.args.first c.args.line _ _ _ _ _
    c.in-Import.is c.import.ensures

pub returns-in-Owner : goal.returns-in-Owner
returns-in-Owner c = asked c.args.first c.args.line _ _ _ _ _
    c.in-Owner.is (ap Owned c.owner.ensures, refl)

pub returns-in-Fresh : goal.returns-in-Fresh
returns-in-Fresh c = asked c.args.first c.args.line _ _ _ _ _
    c.in-Fresh.is c.fresh.ensures
