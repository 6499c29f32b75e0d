-- Lemmas of the crate.
pub mod Pieces
pub mod Ways
pub mod Steps
pub mod Balance
pub mod Rows
pub mod Back
pub mod Forth
pub mod Laws
pub mod Sheets
pub mod Starts
pub mod Going
