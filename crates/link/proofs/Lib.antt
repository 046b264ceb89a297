-- The laws of the link: why its contracts and theorems hold. Assumes nothing.
pub mod Refused
pub mod Link
pub mod Unused
pub mod Agree
pub mod Plain
pub mod Fresh
pub mod Nights
pub mod Imports
