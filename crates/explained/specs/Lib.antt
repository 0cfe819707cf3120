pub mod Explanation
pub mod Search
