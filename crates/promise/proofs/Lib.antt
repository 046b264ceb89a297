-- Why the promise holds. Assumes nothing.
pub mod Promise
pub mod Retried
pub mod Explained
pub mod EventRoom
pub mod Nights
pub mod Owned
pub mod Audited
pub mod Remembered
pub mod Imports
pub mod Sheeted
