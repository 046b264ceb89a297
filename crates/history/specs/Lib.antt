-- The definitions of the history: all that one has to believe of this crate. Assumes nothing.
pub mod Demand3
pub mod MadeGood
pub mod Values
pub mod Ops
pub mod Invariant
pub mod Frames
pub mod Whole
pub mod Given
pub mod Marks
pub mod Audit
pub mod Guarantees
pub mod Stages
pub mod Explained
pub mod Finished
pub mod Owners
