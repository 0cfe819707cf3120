pub mod Applications
pub mod WholeChecks
pub mod Through
pub mod Clearing
pub mod Examples
