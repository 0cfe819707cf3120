pub mod Applications
pub mod WholeBudget
