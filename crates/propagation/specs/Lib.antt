pub mod Propagation
pub mod Orders
pub mod Passes
