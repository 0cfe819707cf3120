pub mod WellFormedLaws
pub mod HeldRun
pub mod StateTests
pub mod Checks
pub mod Examples
