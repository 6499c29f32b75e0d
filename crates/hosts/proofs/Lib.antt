pub mod Puts
pub mod Arrays
