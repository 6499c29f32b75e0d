pub mod Scan
pub mod Start
pub mod Calls
pub mod Laws
