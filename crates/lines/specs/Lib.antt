-- The definitions of the lines: all that one has to believe of this crate. Assumes nothing.
pub mod Text
pub mod Decimal
pub mod Forms
pub mod Grammar
pub mod Reading
pub mod Handed
pub mod Replies
pub mod Record
pub mod Failures
pub mod Promises
