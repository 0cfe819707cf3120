pub mod Application
pub mod Repeats
pub mod Repeating
