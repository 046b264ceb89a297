-- The laws of the program `record`: why its contracts hold. Assumes nothing.
pub mod Reported
pub mod Witnesses
