-- The definitions of the controller: all that one has to believe of this crate. Assumes nothing.
pub mod Performs
pub mod Claims
pub mod Bytes
pub mod Fresh
pub mod Live
pub mod Tallies
pub mod Reads
pub mod Reasons
pub mod Nights
pub mod Imports
pub mod Promises
