pub mod Prints
pub mod RowReads
