pub mod Evaluation
pub mod Table
