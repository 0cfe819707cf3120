pub mod Composing
pub mod Injective
pub mod Examples
