-- The definitions of the rules: all that one has to believe of this crate. Assumes nothing.
pub mod Plans
pub mod Sides
pub mod Heads
pub mod AtRest
pub mod CommitChange
pub mod CommitRollback
pub mod ApplyChange
pub mod ApplyRollback
pub mod Outside
pub mod Promises
