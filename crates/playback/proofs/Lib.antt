pub mod HostLines
pub mod Turns
pub mod Runs
