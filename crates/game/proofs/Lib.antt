pub mod Laws
pub mod Turns
pub mod Strategies
pub mod Satisfiability
pub mod Reading
pub mod Answers
pub mod Examples
pub mod Consequences
