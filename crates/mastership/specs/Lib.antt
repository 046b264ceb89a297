-- The definitions of the lent mastership: all that one has to believe of this crate. Assumes nothing.
pub mod Lent
pub mod Decides
pub mod Promises
