pub mod Words
pub mod ArrayLevels
pub mod RunRead
pub mod Checks
pub mod StateBack
pub mod RoundTrip
pub mod Examples
