pub mod Chunks
pub mod Circuits
pub mod InMemory
pub mod Judging
