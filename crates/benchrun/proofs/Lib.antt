pub mod Splits
pub mod Outcomes
