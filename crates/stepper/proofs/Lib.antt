-- The laws of the stepper: why its contracts and theorems hold. Assumes nothing.
pub mod Answered
pub mod Tables
pub mod Joint
pub mod Waiting
pub mod Fed
pub mod Transcribed
pub mod Printed
