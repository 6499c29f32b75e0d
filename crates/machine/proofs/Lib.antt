pub mod Clears
pub mod Laws
