pub mod Meaning
pub mod Levels
pub mod TapeRows
pub mod JigWires
