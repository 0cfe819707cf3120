pub mod DigitLaws
pub mod Bounds
pub mod InOrder
