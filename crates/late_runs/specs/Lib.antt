pub mod Schedule
pub mod Host
