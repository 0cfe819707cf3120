pub mod Satisfaction
pub mod Refutation
pub mod Growth
pub mod Bound
pub mod Demand2
pub mod Consequences
pub mod Marked
pub mod MarkedColumns
