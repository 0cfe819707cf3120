pub mod Lowering
pub mod CountingHosts
pub mod ClosedHosts
pub mod IndexedHosts
pub mod Bounds
pub mod Consequences
pub mod Examples
