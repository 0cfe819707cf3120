pub mod Pieces
pub mod Lengths
pub mod Examples
pub mod Injective
