pub mod Replacing
pub mod Again
pub mod Examples
