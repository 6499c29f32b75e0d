mod Bounds
mod Steps
pub mod Going
mod Sorted
mod Heads
pub mod Fronts
mod Compiled
mod Lengths
mod Written
pub mod Few
pub mod Limited
pub mod Outcomes
pub mod Groups
