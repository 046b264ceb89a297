-- The laws of the exports: why its contracts and theorems hold. Assumes nothing.
pub mod Packed
pub mod Wider
pub mod WiderWhy
pub mod WiderNight
pub mod WiderTally
