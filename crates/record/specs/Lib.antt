-- The definitions of the program `record`: all that one has to believe of it. Assumes nothing.
pub mod Told
