pub mod Clauses
pub mod Checks
pub mod Places
pub mod Examples
pub mod Shown
