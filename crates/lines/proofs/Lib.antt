pub mod Fields
pub mod Readings
pub mod Said
pub mod Examples
