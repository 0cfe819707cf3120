pub mod Squares
pub mod Steps
