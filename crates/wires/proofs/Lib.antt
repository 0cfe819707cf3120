pub mod Series
pub mod Lengths
pub mod Addresses
pub mod Stores
pub mod Tables
pub mod Levels
pub mod Checks
pub mod Examples
