pub mod Storing
pub mod Generation
