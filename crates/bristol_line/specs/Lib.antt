pub mod Lines
pub mod ByValue
