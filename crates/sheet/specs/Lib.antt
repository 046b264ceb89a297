-- The definitions of the sheet: all that one has to believe of this crate. Assumes nothing.
pub mod SheetText
pub mod Reports
