-- The definitions of the kinds: all that one has to believe of this crate. Assumes nothing.
pub mod Outcome
pub mod Numbers
pub mod Statuses
pub mod Events
pub mod Records
pub mod Promises
