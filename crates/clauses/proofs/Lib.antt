pub mod Literals
pub mod Reading
pub mod Unplaced
pub mod Examples
