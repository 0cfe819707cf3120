pub mod Lines
pub mod Parts
pub mod Limits
pub mod Kept
pub mod Examples
