pub mod Words
pub mod CellKinds
pub mod Instructions
pub mod Tests
pub mod Layout
