pub mod Table
pub mod Depth
pub mod Lines
pub mod Sizes
pub mod Readings
pub mod OnSheets
pub mod Tests
pub mod Changes
