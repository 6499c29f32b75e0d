pub mod Machine
pub mod Body
pub mod Sweep
pub mod Advance
pub mod Memory
