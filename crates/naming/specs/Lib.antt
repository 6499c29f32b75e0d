pub mod Spots
pub mod Splits
pub mod Rivals
pub mod Scopes
