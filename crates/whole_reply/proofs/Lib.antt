pub mod Served
pub mod Examples
pub mod Early
