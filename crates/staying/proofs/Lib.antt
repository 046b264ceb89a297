-- Why what a call decides keeps an image well-formed. Assumes nothing.
pub mod Sizes
pub mod Rooms
pub mod Codes
pub mod Lent
pub mod Stays
pub mod Unused
pub mod Both
pub mod Same
pub mod Entered
