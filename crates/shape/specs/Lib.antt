pub mod Sorts
pub mod Patterns
pub mod Places
