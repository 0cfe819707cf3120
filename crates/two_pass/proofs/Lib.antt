pub mod Running
pub mod InPlace
pub mod Evaluation
