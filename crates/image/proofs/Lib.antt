-- The laws of the image: why its contracts and theorems hold. Assumes nothing.
pub mod Packed
pub mod PackedWitnesses
pub mod UpTo
pub mod Kept
pub mod Sized
pub mod Shown
pub mod Chain
pub mod Scanned
pub mod Carried
pub mod Freshened
pub mod Tables
pub mod Back
pub mod Differed
pub mod Classed
