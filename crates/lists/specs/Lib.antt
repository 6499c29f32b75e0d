pub mod Read
pub mod Steps
