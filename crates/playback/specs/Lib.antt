pub mod Listing
pub mod Players
pub mod Replay
