pub mod Giving
pub mod Lines
