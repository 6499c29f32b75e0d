pub mod Split
pub mod Bench
