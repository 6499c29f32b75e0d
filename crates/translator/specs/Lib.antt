pub mod Writing
pub mod Front
pub mod Outcome
pub mod States
