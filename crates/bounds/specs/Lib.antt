pub mod Bounds
pub mod CountingHost
pub mod IndexedHost
