pub mod Entries
pub mod Tallied
pub mod Continuing
pub mod SameState
