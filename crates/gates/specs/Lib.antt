pub mod Gates
pub mod Memory
pub mod Words
