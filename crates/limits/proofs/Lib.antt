pub mod Items
pub mod Lines
pub mod Progress
pub mod Ranges
pub mod Tallies
pub mod Walks
