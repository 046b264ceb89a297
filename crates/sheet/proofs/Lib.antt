-- The laws of the sheet: why its contracts and its theorems hold. Assumes nothing.
pub mod Tallied
pub mod Reported
pub mod Cut
