-- `write` writes the line of an answer. Assumes nothing.
use Rattle.stepper.proofs.Waiting.{written_for}
use Rattle.stepper.proofs.write.Goals as goal

pub returns-in-Replied : goal.returns-in-Replied
returns-in-Replied c = written_for _ _ _ _ _ c.in-Replied.is c.write_reply.ensures

pub returns-in-Explained : goal.returns-in-Explained
returns-in-Explained c = written_for _ _ _ _ _ c.in-Explained.is c.write_why.ensures

pub returns-in-Slept : goal.returns-in-Slept
returns-in-Slept c = written_for _ _ _ _ _ c.in-Slept.is c.write_night.ensures

pub returns-in-Began : goal.returns-in-Began
returns-in-Began c = written_for _ _ _ _ _ c.in-Began.is c.write_import.ensures

pub returns-in-Owned : goal.returns-in-Owned
returns-in-Owned c = written_for _ _ _ _ _ c.in-Owned.is c.write_owner.ensures
