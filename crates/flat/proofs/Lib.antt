pub mod Every
pub mod KnownKinds
pub mod Pairs
pub mod Layouts
