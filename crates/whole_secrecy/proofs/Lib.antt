pub mod WholeSecrecy
pub mod Consequences
pub mod Examples
pub mod Texts
