-- What the contracts of the kinds cite.
pub mod Ops
pub mod Integers
pub mod Rounding
pub mod Longs
pub mod Millis
pub mod Worked
