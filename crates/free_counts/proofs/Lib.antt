pub mod Counting
pub mod Checks
pub mod Examples
