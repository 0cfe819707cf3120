pub mod Lines
pub mod Shapes
pub mod Marking
pub mod Answering
pub mod RoundTrip
pub mod Examples
pub mod Consequences
