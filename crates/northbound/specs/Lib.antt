-- The definitions of the exports: all that one has to believe of this crate. Assumes nothing.
pub mod Packing
pub mod Wide
pub mod Exports
pub mod Promises
