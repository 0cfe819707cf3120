pub mod Weights
pub mod Floats
pub mod WeightedRun
