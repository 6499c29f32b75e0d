pub mod Guard
pub mod Examples
