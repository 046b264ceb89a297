-- The laws of the controller: why its contracts and theorems hold. Assumes nothing.
pub mod Performed
pub mod LentPairs
pub mod InRange
pub mod Decided
pub mod Answered
pub mod Folded
pub mod Freshened
pub mod Walked
pub mod Tallied
pub mod Shows
pub mod Explained
pub mod Idle
pub mod Turned
pub mod Lent
pub mod Entered
pub mod Importing
