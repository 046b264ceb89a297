-- The definitions of the image: all that one has to believe of this crate. Assumes nothing.
pub mod Packed
pub mod Layout
pub mod Records
pub mod View
pub mod Formed
pub mod Settled
pub mod Fresh
pub mod Differing
pub mod Promises
