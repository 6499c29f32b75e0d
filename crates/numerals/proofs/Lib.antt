pub mod Appends
pub mod Numbers
pub mod Written
