pub mod Lines
pub mod TotalLines
