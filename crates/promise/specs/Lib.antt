-- The promise in definitions: all that one has to believe of this crate. Assumes nothing.
pub mod Demands
pub mod Retry
pub mod Reasons
pub mod Nights
pub mod Owners
pub mod Audits
pub mod Remember
pub mod Imports
pub mod Sheets
