-- Lemmas on wrapped quotients and rounding.
pub mod Quotients
pub mod Nearness
