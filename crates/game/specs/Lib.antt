pub mod Game
pub mod Strategies
pub mod Cuts
