pub mod Stacks
pub mod Bodies
pub mod Sweeps
pub mod Runnables
pub mod Advances
