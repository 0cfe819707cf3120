pub mod Layout
pub mod Packing
pub mod StatePacking
pub mod Bits
pub mod Levels
