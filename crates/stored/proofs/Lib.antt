pub mod Levels
pub mod Holding
pub mod Storing
pub mod RoundTrip
pub mod Examples
