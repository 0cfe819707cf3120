pub mod Histories
pub mod Demand3
pub mod Consequences
pub mod Examples
pub mod Answering
pub mod Calls
