-- The laws of the lent connections: why its contracts and theorems hold. Assumes nothing.
pub mod Laws
