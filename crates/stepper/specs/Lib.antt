-- The definitions of the stepper: all that one has to believe of this crate. Assumes nothing.
pub mod Answers
pub mod Ended
pub mod Fed
pub mod Closed
pub mod Runs
pub mod Transcript
pub mod Steps
