pub mod Reading
pub mod Unpacking
pub mod Levels
