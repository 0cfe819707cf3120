pub mod Schedule
pub mod Demands
pub mod Host
pub mod CircuitCalls
pub mod CircuitDates
pub mod CircuitHost
pub mod Examples
pub mod Continuing
