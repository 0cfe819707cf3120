pub mod Steps
pub mod Placing
pub mod Parts
pub mod Chain
pub mod Circuit
pub mod Order
pub mod Room
pub mod Generating
