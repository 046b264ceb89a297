-- The definitions of the lent connections: all that one has to believe of this crate. Assumes nothing.
pub mod Table
pub mod Decides
pub mod Promises
